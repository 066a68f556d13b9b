-- Both ways into a placing are one.
use Rattle.std.specs.Prelude.{◌≡◌, ℕ, ℤ, List, Option}
use Rattle.ms_syntax.specs.Tree.{Ex}
use Rattle.ms_code.specs.declared.code.Code.{Code}
use Rattle.ms_placing.specs.Placing.{placed_from}
use Rattle.ms_types.specs.Texts.{names_among}
use Rattle.ms_walk.specs.Around.{outside_of}
use Rattle.ms_instance.specs.Views.{spans_of, text_of}
use Rattle.ms_instance.specs.declared.instance.Instance.{Instance}
use Rattle.ms_env.specs.Entries.{operands_in}
use Rattle.ms_env.specs.Envs.{code_in}
use Rattle.ms_env.specs.declared.env.Entry.{Entry}
use Rattle.ms_fix.specs.Around.{around_of, grounded}

-- where a typed tree is that of the expression, placing it is placing the expression
abbrev pub DoorsAgree : Type 0
DoorsAgree = (i : Instance) (es : List Entry) (point : Option (List ℤ)) (word_of : List ℕ → ℕ) (after : List ℕ → List ℕ) (e : Ex) (code : Code) (ws : List ℕ)
    → code ≡ code_in (names_among (text_of i)) es e
    → placed_from (outside_of (around_of i point) word_of after) (operands_in (spans_of i) es) code ws ≡ grounded i es point word_of after e ws
