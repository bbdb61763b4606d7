use Rattle.std.proofs.{Common.{◌≡◌, ◌∙◌, length, rules, take, SFits, w64, sym}, lemmas.Slice.Eq.{bytes_eq-Decides}}
use Rattle.borsh_walks.specs.Container.{tag}
use Rattle.borsh_json.proofs.NumberLaws.{tag_taken}
use Rattle.borsh_json.proofs.order.is_tag.Goals as goal

pub returns : goal.returns
returns c =
    let d = c.args.discriminant.now in
    let bs = c.args.bytes.now in
    let f : SFits w64 d = search rules in
    let u : take (length bs) c.to_le_bytes-tag.result ≡ tag (length bs) d = tag_taken d (length bs) c.to_le_bytes-tag.result f c.requires c.to_le_bytes-tag.ensures in
    let q = bytes_eq-Decides bs (take (length bs) c.to_le_bytes-tag.result) in
    ((λ e. sym (q.0 (sym c.eq.ensures ∙ e) ∙ u)), (λ e. c.eq.ensures ∙ q.1 (sym (u ∙ e))))
