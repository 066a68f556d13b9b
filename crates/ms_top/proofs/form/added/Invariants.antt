use Rattle.std.proofs.Common.{◌≡◌, drop}
use Rattle.ms_syntax.specs.Tree.{links_view}
use Rattle.ms_top.specs.Plain.{added_of}
use Rattle.ms_top.proofs.Gathering.{grown}
use Rattle.ms_top.proofs.form.added.Given as goal

abbrev pub invariant-loop-link : goal.invariant-loop-link
invariant-loop-link l = grown l.found (added_of (links_view (drop l.link-index l.links))) ≡ added_of (links_view l.links)
