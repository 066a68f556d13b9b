-- The least result of a name that is called.
use Rattle.std.proofs.Common.{true, false, List, [], ◌∷◌, refl}
use Rattle.ms_typing.specs.declared.types.Scalar.{Scalar}
use Rattle.ms_typing.specs.declared.types.Scalar.TheVariants.{Truth, Number}
use Rattle.ms_typing.specs.declared.types.Shape.TheVariants.{Single, Line, Grid}
use Rattle.ms_typing.specs.declared.types.ExprType.{ExprType}
use Rattle.ms_typing.specs.declared.types.ExprType.TheVariants.{Plain, Text, Set, Search}
use Rattle.ms_built_ins.specs.declared.names.BuiltIn.TheVariants as b
use Rattle.ms_typing.specs.Conversion.{ConvertAll, plain, set, search, none, more, is_grid, is_line, numbers, shaped, truths}
use Rattle.ms_typing.specs.Meaning.{Meaning}
use Rattle.ms_typing.specs.Meaning as m
use Rattle.ms_typing.specs.Row.{Call, is_array_type, is_fixed, is_shown}
use Rattle.ms_typing.specs.Row as r
use Rattle.ms_typing.specs.Least.{a_number, a_truth, call, fixed, follows}
use Rattle.ms_typing.proofs.Converting.{fits_variable, same, scalar_same}
use Rattle.ms_typing.proofs.Uniform.{Least, array_kept, extreme_array, extreme_two, fixed_kept, grid_kept, line_kept, needs_least, over_least, shaped_kept, shown_kept, tested_least, uniform_least}

sol_least : (ts : List ExprType) (c : Scalar) → ConvertAll ts (Plain c Single false ∷ []) → Least (call (m.built_in b.Sol) ts) (Plain c Single true)
sol_least ts c (more (plain {b = d} {s = s} {k = l} x y z) none) =
    needs_least (Plain d s l ∷ []) (Plain d Single false ∷ []) (Plain d Single true) (more (plain (scalar_same d) y (fits_variable l)) none) (plain x refl refl)

pub call_least : {w : Meaning} {us : List ExprType} {t : ExprType} → (ts : List ExprType) → Call w us t → ConvertAll ts us → Least (call w ts) t
call_least ts (r.function {ts = us} {t = t}) h = needs_least ts us t h (same t)
call_least ts (r.for_all {s = s} {k = k} a) h = over_least Truth Truth s k ts a h
call_least ts (r.exists_one {s = s} {k = k} a) h = over_least Truth Truth s k ts a h
call_least ts (r.sum_of {s = s} {k = k} a) h = over_least Number Number s k ts a h
call_least ts (r.min_of {s = s} {k = k} a) h = extreme_array s k ts a h
call_least ts (r.min_two {k = k}) h = extreme_two k ts h
call_least ts (r.max_of {s = s} {k = k} a) h = extreme_array s k ts a h
call_least ts (r.max_two {k = k}) h = extreme_two k ts h
call_least ts (r.absolute {k = k}) h = uniform_least (a_number ∷ []) a_number k ts h
call_least ts (r.bool_to_int {k = k}) h = uniform_least (a_truth ∷ []) a_number k ts h
call_least ts (r.count {k = k}) h = uniform_least (follows Number Line ∷ a_number ∷ []) a_number k ts h
call_least ts (r.all_different {s = s} {k = k} a) h = over_least Number Truth s k ts a h
call_least ts (r.table {k = k}) h = uniform_least (follows Number Line ∷ fixed (Plain Number Grid true) ∷ []) a_truth k ts h
call_least ts (r.length_of a) (more {t = t} c none) = tested_least is_array_type t (numbers true) (array_kept c a) (same (numbers true))
call_least ts (r.index_set a) (more {t = t} c none) = tested_least is_line t Set (line_kept c a) set
call_least ts (r.row_index_set a) (more {t = t} c none) = tested_least is_grid t Set (grid_kept c a) set
call_least ts (r.column_index_set a) (more {t = t} c none) = tested_least is_grid t Set (grid_kept c a) set
call_least ts r.card h = needs_least ts (Set ∷ []) (numbers true) h (same (numbers true))
call_least ts (r.array_line a) (more {t = d} e (more {t = t} c none)) =
    rw (array_kept c a) (needs_least (d ∷ t ∷ []) (Set ∷ t ∷ []) (shaped Line t) (more e (more (same t) none)) (shaped_kept Line c a))
call_least ts (r.array_grid a) (more {t = d} e (more {t = i} g (more {t = t} c none))) =
    rw (array_kept c a) (needs_least (d ∷ i ∷ t ∷ []) (Set ∷ Set ∷ t ∷ []) (shaped Grid t) (more e (more g (more (same t) none))) (shaped_kept Grid c a))
call_least ts (r.show a) (more {t = t} c none) = tested_least is_shown t (Text Single) (shown_kept c a) (same (Text Single))
call_least ts (r.fixed a) (more {t = t} c none) = tested_least is_fixed t t (fixed_kept c a) c
call_least ts (r.sol {c = c}) h = sol_least ts c h
call_least ts r.has_sol h = needs_least ts [] (truths true) h (same (truths true))
call_least ts r.uniform h = needs_least ts (numbers true ∷ numbers true ∷ []) (numbers true) h (same (numbers true))
call_least ts r.next h = needs_least ts [] Search h search
call_least ts r.post h = needs_least ts (truths false ∷ []) Search h search
call_least ts r.commit h = needs_least ts [] Search h search
call_least ts r.print_solution none = record { least = ([], Search); given = refl; below = search }
call_least ts r.print_text (more {t = t} c none) = needs_least (t ∷ []) (Text Single ∷ []) Search (more c none) search
call_least ts r.scope h = needs_least ts (Search ∷ []) Search h search
call_least ts r.repeat h = needs_least ts (Search ∷ []) Search h search
call_least ts r.time_limit h = needs_least ts (numbers true ∷ Search ∷ []) Search h search
call_least ts r.keep h = needs_least ts (Plain Number Line false ∷ []) Search h search
call_least ts r.clear_front h = needs_least ts [] Search h search
call_least ts r.print_front h = needs_least ts [] Search h search
