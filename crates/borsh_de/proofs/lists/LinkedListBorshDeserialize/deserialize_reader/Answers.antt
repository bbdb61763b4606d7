use Rattle.std.proofs.Common.{◌++◌, sym, ◌∙◌, ap, append-nil}
use Rattle.borsh_codec.proofs.DecodeViews.{decodes_as_made}
use Rattle.borsh_de.proofs.Pieces.{none_left}
use Rattle.borsh_de.proofs.lists.LinkedListBorshDeserialize.deserialize_reader.Goals as goal

pub returns : goal.returns
returns g c =
    let list = c.loop-item.list in
    let left = c.loop-item.item-iterator.rest in
    let none = none_left left.items (sym left.ok.0 ∙ c.in-None.ensures.steps.0) in
    let moved = sym (append-nil list) ∙ ap (λ z. list ++ z) (sym none) ∙ c.loop-item.invariant ∙ c.into_iter-item-iterator.ensures.into_iter_gives.0 in
    decodes_as_made (λ v. v) moved c.in_ok-item-items.ensures
