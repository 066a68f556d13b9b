-- A bracket that has opened, and a `let`.
use Rattle.std.proofs.Common.{◌≡◌, ℕ, List, Bool}
use Rattle.std.specs.Prelude.{pred}
use Rattle.ms_syntax.specs.declared.token.Place.{Place}
use Rattle.ms_syntax.specs.declared.token.Spanned.{Spanned}
use Rattle.ms_syntax.specs.declared.token.Keyword.TheVariants as k
use Rattle.ms_syntax.specs.declared.token.Symbol.TheVariants as s
use Rattle.ms_syntax.specs.Tree as x
use Rattle.ms_syntax.specs.Tree.{Ex, Decl, decls_of}
use Rattle.ms_syntax.specs.Grammar.{Tokens}
use Rattle.ms_expressions.specs.declared.reach.Reach.{Reach}
use Rattle.ms_cursor.specs.Level.{height}
use Rattle.ms_cursor.specs.declared.level.Level.TheVariants as lv
use Rattle.ms_cursor.specs.Kinds.{symbol, keyword}
use Rattle.ms_cursor.specs.Reading.{ok, Parser, must, enter}
use Rattle.ms_expressions.specs.Rules.{locals, local, tier, signed}

pub let_read : (d : ℕ) (inner inmost : Reach → Parser Ex) (p : Place) (ts t2 t3 t4 t5 : Tokens) (c w : Unit {0} × Spanned) (r : List Decl × Bool) (e : Ex) → enter d (symbol s.OpenBrace) ts ≡ ok c t2
    → locals (pred d) inner inmost t2 ≡ ok r t3 → must (keyword k.In) t3 ≡ ok w t4 → tier (height lv.Equivalence) (signed d inner) t4 ≡ ok e t5 → local d inner inmost p ts ≡ ok (x.let_in p (decls_of r.0) r.1 e) t5
unfolding local
let_read d inner inmost p ts t2 t3 t4 t5 c w r e h1 h2 h3 h4 = rw (h1, h2, h3, h4)
