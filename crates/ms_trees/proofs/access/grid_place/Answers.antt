use Rattle.std.proofs.Common.{rules, w64, SFits}
use Rattle.std.proofs.lemmas.Int.{to_z-of_z}
use Rattle.ms_trees.proofs.Found.{in_grid, off_rows, off_columns}
use Rattle.ms_trees.proofs.access.grid_place.Goals as goal

pub returns-in_err-row_place : goal.returns-in_err-row_place
returns-in_err-row_place c =
    let low : SFits w64 c.args.low = search rules in
    let row : SFits w64 c.args.row = search rules in
    let none = rw (to_z-of_z w64 c.args.low low, to_z-of_z w64 c.args.row row) at c.in_err-row_place.ensures in
    rw c.from_residual.ensures (off_rows c.args.low c.args.left c.args.width c.args.count c.args.row c.args.column none)

pub returns-in_err-column_place : goal.returns-in_err-column_place
returns-in_err-column_place c =
    let left : SFits w64 c.args.left = search rules in
    let column : SFits w64 c.args.column = search rules in
    let none = rw (to_z-of_z w64 c.args.left left, to_z-of_z w64 c.args.column column) at c.in_err-column_place.ensures in
    rw c.from_residual-in_err-column_place.ensures (off_columns c.args.low c.args.left c.args.width c.args.count c.args.row c.args.column none)

pub returns : goal.returns
returns c =
    let low : SFits w64 c.args.low = search rules in
    let left : SFits w64 c.args.left = search rules in
    let row : SFits w64 c.args.row = search rules in
    let column : SFits w64 c.args.column = search rules in
    let here = rw (to_z-of_z w64 c.args.low low, to_z-of_z w64 c.args.row row) at c.in_ok-row_place.ensures in
    let there = rw (to_z-of_z w64 c.args.left left, to_z-of_z w64 c.args.column column) at c.in_ok-column_place.ensures in
    in_grid c.args.low c.args.left c.args.width c.args.count c.args.row c.args.column c.in_ok-row_place.row_place c.in_ok-column_place.column_place here there
