-- Lemmas on the bars of a chart and on the entries of a board.
pub mod ChartApart
pub mod Entries
