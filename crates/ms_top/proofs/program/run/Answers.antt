use Rattle.std.proofs.Common.{◌≡◌, ◌∙◌, sym, subst, List, ℕ}
use Rattle.ms_io.specs.Files.{HasFile, Rose}
use Rattle.ms_top.specs.declared.status.Status.TheVariants.{ReadFault, WriteFault, NoMemory}
use Rattle.ms_top.specs.Answer.{Answers}
use Rattle.ms_top.specs.Words.{NameBytes}
use Rattle.ms_top.proofs.Ending.{Laws, name_is, remains_answer, remains_other, least_answer, none_answer, refused_answer}
use Rattle.ms_top.proofs.program.run.Goals as goal
use Rattle.ms_top.proofs.program.run.Given.{Over}

laws : (g : Over) (c : goal.After-report-2 g) → Laws
laws g c = record { one_fault = c.one_outcome.ensures.one_fault; not_both = c.one_outcome.ensures.not_both; one_model = c.one_outcome.ensures.one_model }

answered : (g : Over) (c : goal.After-report-2 g) (bytes : List ℕ) → NameBytes (g.F.Files.told c.args.files.now) c.args.words.now bytes
    → Answers bytes c.report-2.result (g.O.Sink.taken c.args.out.now) (g.O.Sink.taken c.answer_file-status.new.out)
answered g c bytes named =
    remains_answer c.answer_file-status.result c.report-2.result bytes _ _ c.report-2.ensures.status
    (c.answer_file-status.ensures.answers bytes
    (subst (λ (n : List ℕ). HasFile (g.F.Files.told c.args.files.now) n bytes) (name_is c.args.words.now c.file-item.result c.in-len2.len_at_least c.file-item.is ∙ sym c.as_str.ensures.value) named.1))

read_failed : (g : Over) (c : goal.After-report-2 g) → c.report-2.result ≡ ReadFault → Rose (g.F.Files.faults c.args.files.now) (g.F.Files.faults c.answer_file-status.new.files)
read_failed g c e = c.answer_file-status.ensures.read_fault (remains_other _ _ ReadFault c.report-2.ensures.status e (λ h. let wrong : NoMemory ≡ ReadFault = h in absurd (cc)))

write_failed : (g : Over) (c : goal.After-report-2 g) → c.report-2.result ≡ WriteFault → Rose (g.O.Sink.faults c.args.out.now) (g.O.Sink.faults c.answer_file-status.new.out)
write_failed g c e = c.answer_file-status.ensures.write_fault (remains_other _ _ WriteFault c.report-2.ensures.status e (λ h. let wrong : NoMemory ≡ WriteFault = h in absurd (cc)))

pub returns-clause-plain : goal.returns-clause-plain
returns-clause-plain g c = λ bytes m a named least no_read no_write.
    least_answer (laws g c) bytes _ _ c.report-2.result (answered g c bytes named) m a least (λ e. no_read (read_failed g c e)) (λ e. no_write (write_failed g c e))

pub returns-clause-unsatisfiable : goal.returns-clause-unsatisfiable
returns-clause-unsatisfiable g c = λ bytes m named none no_read no_write.
    none_answer (laws g c) bytes _ _ c.report-2.result (answered g c bytes named) m none (λ e. no_read (read_failed g c e)) (λ e. no_write (write_failed g c e))

pub returns-clause-refused : goal.returns-clause-refused
returns-clause-refused g c = λ bytes fault read.
    refused_answer (laws g c) bytes _ _ c.report-2.result (answered g c bytes read.named) (λ e. read.no_fault (read_failed g c e)) fault
