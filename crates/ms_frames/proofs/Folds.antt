-- What a part of an expression is, by its fields.
use Rattle.std.proofs.Common.{◌≡◌, ℕ, Bool, List, [], ◌∷◌, refl, rules, ap, map, Option, option_map}
use Rattle.ms_syntax.specs.declared.token.Place.{Place}
use Rattle.ms_syntax.specs.declared.tree.Sign.{Sign}
use Rattle.ms_typing.specs.declared.types.ExprType.{ExprType}
use Rattle.ms_code.specs.declared.code.Condition.{Condition}
use Rattle.ms_code.specs.declared.code.Reference.{Reference}
use Rattle.ms_code.specs.declared.code.Code.{Code}
use Rattle.ms_code.specs.declared.code.Code.TheVariants as e
use Rattle.ms_code.specs.declared.code.Code.TheOpen.{Code-F}
use Rattle.ms_code.specs.declared.code.Code.TheFolds.{the_lemmas}
use Rattle.ms_code.specs.declared.code.Arm.{Arm, out-Arm}
use Rattle.ms_code.specs.declared.code.Generator.{Generator, out-Generator}
use Rattle.ms_code.specs.declared.code.Generators.{Generators, out-Generators}
use Rattle.ms_code.specs.declared.code.Link.{Link, out-Link}
use Rattle.ms_code.specs.declared.code.Row.{Row, out-Row}
use Rattle.ms_code.specs.declared.code.Subscript.{Subscript, out-Subscript}
use Rattle.ms_placing.specs.Outside.{Outside}
use Rattle.ms_placing.specs.Placing.{Caller, Part, ArmPart, GeneratorPart, GeneratorsPart, LinkPart, SubscriptPart, run, run_arm, run_generator, run_generators, run_link, run_row, run_subscript, run_step}

module _ (out : Outside) (call : Caller) where
  pub link_is : (l : Link) → run_link out call l ≡ record { operator = (out-Link l).operator; place = (out-Link l).place; operand = run out call (out-Link l).operand }
  link_is l = search (rules, the_lemmas)

  pub subscript_is : (s : Subscript) → run_subscript out call s ≡ record { first = run out call (out-Subscript s).first; second = option_map (run out call) (out-Subscript s).second }
  subscript_is s = search (rules, the_lemmas)

  pub arm_is : (a : Arm) → run_arm out call a ≡ record { kind = (out-Arm a).kind; condition = run out call (out-Arm a).condition; branch = run out call (out-Arm a).branch }
  arm_is a = search (rules, the_lemmas)

  pub row_is : (r : Row) → run_row out call r ≡ map (run out call) (out-Row r).elements
  row_is r = search (rules, the_lemmas)

  pub generator_is : (g : Generator) → run_generator out call g ≡ record { place = (out-Generator g).place; names = (out-Generator g).names; set = run out call (out-Generator g).set }
  generator_is g = search (rules, the_lemmas)
