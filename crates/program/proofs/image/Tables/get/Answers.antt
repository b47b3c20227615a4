-- `program::image::Tables::get` meets its contract. Assumes nothing.
use Rattle.std.proofs.Common.{refl, arith}
use Rattle.program.specs.Image.{Tables, tables_of, entries_of}
use Rattle.program.proofs.Entries.{bounds}
use Rattle.program.proofs.image.Tables.get.Goals as goal
use Rattle.program.specs.declared.image.Tables.TheInside.{Inside}

abbrev lent : Inside → Tables
lent inside = tables_of inside.firsts.now inside.ends.now inside.entries.now

pub starts_at-start-requires : goal.starts_at-start-requires
starts_at-start-requires c = (bounds (lent c.self.inside) _ c.self.invariant c.if-self-table.false).0

pub bounds-self-inside-table : goal.bounds-self-inside-table
bounds-self-inside-table c = (bounds (lent c.self.inside) _ c.self.invariant c.if-self-table.false).0

pub offset_bounds-self-inside-start : goal.offset_bounds-self-inside-start
offset_bounds-self-inside-start c =
    let b = bounds (lent c.self.inside) _ c.self.invariant c.if-self-table.false in
    let start = c.starts_at-start.ensures in
    omega arith

pub slice_bounds-result-count : goal.slice_bounds-result-count
slice_bounds-result-count c =
    let b = bounds (lent c.self.inside) _ c.self.invariant c.if-self-table.false in
    let start = c.starts_at-start.ensures in
    omega arith

pub slice_bounds-result-start : goal.slice_bounds-result-start
slice_bounds-result-start c =
    let b = bounds (lent c.self.inside) _ c.self.invariant c.if-self-table.false in
    let start = c.starts_at-start.ensures in
    omega arith

pub slice_bounds-result-end : goal.slice_bounds-result-end
slice_bounds-result-end c =
    let b = bounds (lent c.self.inside) _ c.self.invariant c.if-self-table.false in
    let start = c.starts_at-start.ensures in
    omega arith

pub returns : goal.returns
unfolding entries_of
returns c = rw (← c.self.view_is, c.starts_at-start.ensures) (c.if-self-table.false, refl, refl)
