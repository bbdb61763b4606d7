use Rattle.std.proofs.Common.{◌∙◌, ◌++◌, sym, ap}
use Rattle.borsh_json.specs.Frames.{steps_at}
use Rattle.borsh_json.proofs.FrameLaws.{steps_taken}
use Rattle.borsh_json.proofs.position.Position.path_to_place.Goals as goal

pub loop-place-preserved : goal.loop-place-preserved
loop-place-preserved c =
    let i = c.loop-place.place-index in
    c.in_ok-add_steps.ensures ∙ ap (λ l. l ++ steps_at c.place-item.result) c.loop-place.invariant ∙ sym (steps_taken c.as_slice-place-items.result.now i c.place-item.result c.loop-place-test.true c.place-item.is)
