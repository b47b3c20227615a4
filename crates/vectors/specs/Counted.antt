-- What is counted of the cases: the answers that were the stored ones, and those that were not. Definitions only.
use Rattle.std.specs.Prelude.{◌+◌, ◌%◌, ◌^◌, Bool, if◌then◌else◌}
use Rattle.vectors.specs.declared.records.Source.{Source}
use Rattle.vectors.specs.declared.records.Source.TheVariants.{Rust, Paper}
use Rattle.vectors.specs.declared.tally.Tally.{Tally}
use Rattle.vectors.specs.declared.tally.Counts.{Counts}

-- one answer more
abbrev pub counted : Tally → Bool → Tally
counted t agrees = record {
  agree = (t.agree + (if agrees then 1 else 0)) % 2 ^ 64;
  differ = (t.differ + (if agrees then 0 else 1)) % 2 ^ 64;
}

-- one case more of a source, and of the subject
abbrev pub counted_of : Counts → Source → Bool → Counts
counted_of c Rust agrees = record { subject = counted c.subject agrees; rust = counted c.rust agrees; paper = c.paper }
counted_of c Paper agrees = record { subject = counted c.subject agrees; rust = c.rust; paper = counted c.paper agrees }
