use Rattle.std.proofs.lemmas.Result.{err_from_is_err_and}
use Rattle.ms_syntax.specs.Tree.{ex_view}
use Rattle.ms_parser.proofs.Whole.{whole_ok, whole_unread, whole_unfinished}
use Rattle.ms_parser.proofs.expression.whole_statement.Goals as goal

pub returns : goal.returns
returns c = whole_ok c.args.tokens.now c.new-cursor.result c.new-cursor.ensures (ex_view c.in_ok-read.read) c.expr.new.tokens c.in_ok-read.ensures c.in_ok-finish.ensures

pub returns-in_err-read : goal.returns-in_err-read
returns-in_err-read c =
    let failed = whole_unread c.args.tokens.now c.new-cursor.result c.new-cursor.ensures c.in_err-read.field-0.0 c.in_err-read.ensures in
    let p = err_from_is_err_and c.from_residual.result c.from_residual.ensures.1 in
    rw (p.1, p.2) failed

pub returns-in_err-finish : goal.returns-in_err-finish
returns-in_err-finish c =
    let failed = whole_unfinished c.args.tokens.now c.new-cursor.result c.new-cursor.ensures (ex_view c.in_ok-read.read) c.expr.new.tokens c.in_err-finish.field-0.0 c.in_ok-read.ensures c.in_err-finish.ensures in
    let p = err_from_is_err_and c.from_residual-in_err-finish.result c.from_residual-in_err-finish.ensures.1 in
    rw (p.1, p.2) failed
