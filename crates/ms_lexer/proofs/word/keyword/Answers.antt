use Rattle.std.proofs.Common.{◌≡◌, Some, None, sym}
use Rattle.ms_syntax.specs.Keywords.{keyword_among}
use Rattle.ms_lexer.specs.Keywords as group
use Rattle.ms_lexer.proofs.Groups.{found_first, found_second, found_third}
use Rattle.ms_lexer.proofs.word.keyword.Goals as goal

pub returns-in-Some : goal.returns-in-Some
returns-in-Some c = let found : keyword_among group.ann_to_endif c.args.word.now ≡ Some c.in-Some.keyword = cc in sym (found_first c.args.word.now c.in-Some.keyword found)

pub returns-in-Some-enum_to_let : goal.returns-in-Some-enum_to_let
returns-in-Some-enum_to_let c =
    let none : keyword_among group.ann_to_endif c.args.word.now ≡ None = cc in
    let found : keyword_among group.enum_to_let c.args.word.now ≡ Some c.in-Some-enum_to_let.keyword = cc in
    sym (found_second c.args.word.now c.in-Some-enum_to_let.keyword none found)

pub returns-in-Some-maximize_to_predicate : goal.returns-in-Some-maximize_to_predicate
returns-in-Some-maximize_to_predicate c =
    let none : keyword_among group.ann_to_endif c.args.word.now ≡ None = cc in
    let none_either : keyword_among group.enum_to_let c.args.word.now ≡ None = cc in
    let found : keyword_among group.maximize_to_predicate c.args.word.now ≡ Some c.in-Some-maximize_to_predicate.keyword = cc in
    sym (found_third c.args.word.now c.in-Some-maximize_to_predicate.keyword none none_either found)
