use Rattle.std.proofs.Common.{◌≡◌, ◌∷◌, Some, sym, ◌∙◌, inl, inr}
use Rattle.fed_words.specs.Item.{words_of}
use Rattle.fed_words.specs.Utility.{utility_named}
use Rattle.fed_words.proofs.Answering.{read-answer, read-fault}
use Rattle.fed_words.proofs.Each.{gives-either}
use Rattle.fed_words.proofs.requests.read_words.Goals as goal

pub returns-in_err-operands : goal.returns-in_err-operands
returns-in_err-operands c =
    let whole : c.args.words.now ≡ c.in_ok-name.name.now ∷ c.in_ok-name.others.now = (rw c.in_ok-name.ensures.ok_part at c.split_first.ensures.cases).0 in
    let named : utility_named c.in_ok-name.name.now.now ≡ Some c.in_ok-utility.utility = sym c.named.ensures ∙ c.in_ok-utility.ensures.ok_part in
    gives-either _ c.from_residual-in_err-operands.result _ c.in_err-operands.field-0.0 c.from_residual-in_err-operands.ensures.1 (elim c.in_err-operands.ensures [
      | inl refused ↦ inl refused
      | inr wrong ↦ inr (rw whole (read-fault c.args.roster.now c.args.here c.in_ok-name.name.now.now (words_of c.in_ok-name.others.now) c.in_ok-utility.utility named c.in_err-operands.field-0.0 wrong))
    ])

pub returns : goal.returns
returns c =
    let whole : c.args.words.now ≡ c.in_ok-name.name.now ∷ c.in_ok-name.others.now = (rw c.in_ok-name.ensures.ok_part at c.split_first.ensures.cases).0 in
    let named : utility_named c.in_ok-name.name.now.now ≡ Some c.in_ok-utility.utility = sym c.named.ensures ∙ c.in_ok-utility.ensures.ok_part in
    rw (whole, read-answer c.args.roster.now c.args.here c.in_ok-name.name.now.now (words_of c.in_ok-name.others.now) c.in_ok-utility.utility named c.read_options.new.settings (words_of c.in_ok-operands.operands.now) c.in_ok-operands.ensures) c.answer.ensures
