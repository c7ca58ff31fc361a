-- How many jobs and reservations have an identifier that one site gave.
use Rattle.std.specs.Prelude.{ℕ, suc, Bool, ◌||◌, is_some, count_by}
use Rattle.std.specs.List.{range_with_len}
use Rattle.fed_stamp.specs.Stamp.{StampValue}
use Rattle.fed_stamp.specs.Version.{counter_of}
use Rattle.fed_model.specs.Letter.{is_submitted}
use Rattle.fed_model.specs.Retired.{is_within, starts}
use Rattle.fed_model.specs.View.{View}

-- how many of the site's stamps that the view's version covers pass the test
abbrev pub count_at : View → ℕ → (StampValue → Bool) → ℕ
count_at v site test = count_by (λ counter. test (record { counter = counter; site = site }))
    (range_with_len 0 (suc (counter_of v.version site)))

-- the jobs that were submitted at the site and are not retired, those that are gone among them
abbrev pub jobs_of : View → ℕ → ℕ
jobs_of v site = count_at v site (λ job. is_submitted (v.job job))

-- the reservations that were made at the site and are not retired, those that are cancelled among them
abbrev pub reservations_of : View → ℕ → ℕ
reservations_of v site = count_at v site (λ id. is_some (v.reservation id))

-- the ranges of identifiers that are retired at the site, of which none touches another
abbrev pub ranges_of : View → ℕ → ℕ
ranges_of v site = count_at v site (starts v.retired)

-- so many they are once a range of the site is retired too
abbrev pub ranges_with : View → ℕ → ℕ → ℕ → ℕ
ranges_with v site first last = count_at v site (starts (λ id. v.retired id || is_within first last id.counter))
