-- What an expression is, by its form.
use Rattle.std.proofs.Common.{◌≡◌, ℕ, Bool, List, rules, map, option_map}
use Rattle.ms_syntax.specs.declared.token.Place.{Place}
use Rattle.ms_syntax.specs.declared.tree.Sign.{Sign}
use Rattle.ms_typing.specs.declared.types.ExprType.{ExprType}
use Rattle.ms_code.specs.declared.code.Reference.{Reference}
use Rattle.ms_code.specs.declared.code.Code.{Code}
use Rattle.ms_code.specs.declared.code.Code.TheVariants as e
use Rattle.ms_code.specs.declared.code.Code.TheOpen.{Code-F}
use Rattle.ms_code.specs.declared.code.Code.TheFolds.{the_lemmas}
use Rattle.ms_code.specs.declared.code.Arm.{Arm}
use Rattle.ms_code.specs.declared.code.Generators.{Generators, out-Generators}
use Rattle.ms_code.specs.declared.code.Link.{Link}
use Rattle.ms_code.specs.declared.code.Row.{Row}
use Rattle.ms_code.specs.declared.code.Subscript.{Subscript}
use Rattle.ms_placing.specs.Outside.{Outside}
use Rattle.ms_placing.specs.Placing.{Caller, run, run_arm, run_generator, run_generators, run_link, run_row, run_subscript, run_step}

module _ (out : Outside) (call : Caller) where
  pub generators_are : (g : Generators) → run_generators out call g ≡ record { list = map (run_generator out call) (out-Generators g).list; condition = option_map (run out call) (out-Generators g).condition }
  generators_are g = search (rules, the_lemmas)

  pub number : (p : Place) (n : ℕ) → run out call (e.Number p n) ≡ run_step out call (Code-F.Number p n)
  number p n = search (rules, the_lemmas)

  pub truth : (p : Place) (b : Bool) → run out call (e.Truth p b) ≡ run_step out call (Code-F.Truth p b)
  truth p b = search (rules, the_lemmas)

  pub text : (p : Place) (w : List ℕ) → run out call (e.Text p w) ≡ run_step out call (Code-F.Text p w)
  text p w = search (rules, the_lemmas)

  pub name : (p : Place) (r : Reference) → run out call (e.Name p r) ≡ run_step out call (Code-F.Name p r)
  name p r = search (rules, the_lemmas)

  pub chain : (a : Code) (ls : List Link) → run out call (e.Chain a ls) ≡ run_step out call (Code-F.Chain (run out call a) (map (run_link out call) ls))
  chain a ls = search (rules, the_lemmas)

  pub prefix : (p : Place) (s : Sign) (a : Code) → run out call (e.Prefix p s a) ≡ run_step out call (Code-F.Prefix p s (run out call a))
  prefix p s a = search (rules, the_lemmas)

  pub parenthesis : (p : Place) (a : Code) → run out call (e.Parenthesis p a) ≡ run_step out call (Code-F.Parenthesis p (run out call a))
  parenthesis p a = search (rules, the_lemmas)

  pub access : (p : Place) (a : Code) (ss : List Subscript) → run out call (e.Access p a ss) ≡ run_step out call (Code-F.Access p (run out call a) (map (run_subscript out call) ss))
  access p a ss = search (rules, the_lemmas)

  pub called : (p : Place) (r : Reference) (es : List Code) → run out call (e.Call p r es) ≡ run_step out call (Code-F.Call p r (map (run out call) es))
  called p r es = search (rules, the_lemmas)

  pub gathered : (p : Place) (t : ExprType) (g : Generators) (a : Code) → run out call (e.Gathered p t g a) ≡ run_step out call (Code-F.Gathered p t (run_generators out call g) (run out call a))
  gathered p t g a = search (rules, the_lemmas)

  pub repeat : (p : Place) (g : Generators) (a : Code) → run out call (e.RepeatEach p g a) ≡ run_step out call (Code-F.RepeatEach p (run_generators out call g) (run out call a))
  repeat p g a = search (rules, the_lemmas)

  pub array : (p : Place) (t : ExprType) (es : List Code) → run out call (e.Array p t es) ≡ run_step out call (Code-F.Array p t (map (run out call) es))
  array p t es = search (rules, the_lemmas)

  pub rows : (p : Place) (t : ExprType) (rs : List Row) → run out call (e.Rows p t rs) ≡ run_step out call (Code-F.Rows p t (map (run_row out call) rs))
  rows p t rs = search (rules, the_lemmas)

  pub set : (p : Place) (es : List Code) → run out call (e.Set p es) ≡ run_step out call (Code-F.Set p (map (run out call) es))
  set p es = search (rules, the_lemmas)

  pub comprehension : (p : Place) (t : ExprType) (g : Generators) (a : Code) → run out call (e.Comprehension p t g a) ≡ run_step out call (Code-F.Comprehension p t (run_generators out call g) (run out call a))
  comprehension p t g a = search (rules, the_lemmas)

  pub choice : (p : Place) (arms : List Arm) (a : Code) → run out call (e.If p arms a) ≡ run_step out call (Code-F.If p (map (run_arm out call) arms) (run out call a))
  choice p arms a = search (rules, the_lemmas)

  pub locals : (p : Place) (es : List Code) (a : Code) → run out call (e.Let p es a) ≡ run_step out call (Code-F.Let p (map (run out call) es) (run out call a))
  locals p es a = search (rules, the_lemmas)

  pub convert : (t : ExprType) (a : Code) → run out call (e.Convert t a) ≡ run_step out call (Code-F.Convert t (run out call a))
  convert t a = search (rules, the_lemmas)
