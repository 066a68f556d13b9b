use Rattle.ms_io.proofs.Reporting.{put_reports}
use Rattle.ms_io.proofs.report.put_report.Goals as goal

pub returns : goal.returns
returns g c = put_reports c.args.text.now _ _ _ _ c.put.result c.put.ensures.ok c.put.ensures.err c.put.ensures.faults
