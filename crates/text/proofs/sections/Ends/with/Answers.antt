-- `text::sections::Ends::with` meets its contract. Assumes nothing.
use Rattle.std.proofs.Common.{arith}
use mathlib.Core.Logic.{inl}
use Rattle.text.proofs.Counting.{targets-within, values-within}
use Rattle.text.proofs.sections.Ends.with.Goals as goal

pub count-requires-clause-fits : goal.count-requires-clause-fits
count-requires-clause-fits c =
    let few = targets-within c.args.line.now c.payload_of-p.ensures c.targets.ensures in
    inl (omega (arith, c.requires.targets))

pub overflow_add-result : goal.overflow_add-result
overflow_add-result c =
    omega (arith, targets-within c.args.line.now c.payload_of-p.ensures c.targets.ensures, c.count.ensures.bound, c.requires.targets)

pub count-requires-in-Some-Lookup-clause-fits : goal.count-requires-in-Some-Lookup-clause-fits
count-requires-in-Some-Lookup-clause-fits c =
    let few = values-within c.args.line.now c.payload_of-p.ensures c.values.ensures in
    inl (omega (arith, c.requires.values))

pub overflow_add-result-in-Some-Lookup : goal.overflow_add-result-in-Some-Lookup
overflow_add-result-in-Some-Lookup c =
    omega (arith, values-within c.args.line.now c.payload_of-p.ensures c.values.ensures, c.count-in-Some-Lookup.ensures.bound, c.requires.values)
