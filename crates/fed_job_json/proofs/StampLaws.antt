-- Sites, stamps and versions are read as what they are the values of.
use Rattle.std.proofs.Common.{◌-◌, refl}
use Rattle.fed_stamp.specs.declared.sites.TheConstants.{SITES}
use Rattle.fed_stamp.specs.declared.stamps.TheConstants.{MAX_COUNTER}
use Rattle.fed_json.specs.Numbers.{natural_value, natural_in}
use Rattle.fed_model.specs.Ranges.{IsFrom, IsSite, IsStamp}
use Rattle.fed_json.specs.Values.{pair_of, pair_value}
use Rattle.fed_json.proofs.Forms.{IsForm}
use Rattle.fed_json.proofs.NumberLaws.{natural_form}
use Rattle.fed_json.proofs.FormLaws.{pair_form, mapped_form, row_form}
use Rattle.fed_job_json.specs.Stamps.{site_of, stamp_value, stamp_of, version_value, version_of, IsVersion}

pub site_form : IsForm site_of natural_value IsSite
site_form = natural_form 0 (SITES - 1)

pub stamp_form : IsForm stamp_of stamp_value IsStamp
stamp_form = mapped_form (pair_of (natural_in 1 MAX_COUNTER) site_of) (pair_value natural_value natural_value) (λ p. IsFrom 1 MAX_COUNTER p.0 × IsSite p.1) (λ p. record { counter = p.0; site = p.1 }) stamp_value IsStamp
    (pair_form (natural_in 1 MAX_COUNTER) site_of natural_value natural_value (IsFrom 1 MAX_COUNTER) IsSite (natural_form 1 MAX_COUNTER) site_form)
    (λ p h. (refl, h)) (λ s h. ((s.counter, s.site), h, refl))

pub version_form : IsForm version_of version_value IsVersion
version_form = row_form (natural_in 0 MAX_COUNTER) natural_value (IsFrom 0 MAX_COUNTER) 16 (natural_form 0 MAX_COUNTER)
