use Rattle.std.proofs.Common.{ap, ◌∙◌}
use Rattle.std.specs.List.{slice_get}
use Rattle.ms_instance.proofs.Outputs.{output_found}
use Rattle.ms_instance.specs.Reading.{model_items, output_at}
use Rattle.ms_instance.proofs.instance.Instance.output.Goals as goal

pub returns : goal.returns
returns c =
    c.output_at.ensures ∙ ap (λ is. output_at is (slice_get c.as_slice.result.now c.args.item)) c.items.ensures
    ∙ ap (λ ps. output_at (model_items c.args.self.now.typed) (slice_get ps c.args.item)) (c.as_slice.ensures.value ∙ c.args.self.now.outputs_stand)
    ∙ output_found (model_items c.args.self.now.typed) c.args.item
