use Rattle.std.proofs.Common.{◌≡◌, ◌∙◌}
use Rattle.borsh_json.proofs.{NumberLaws.{tag_is, fill_of, fill_negative, fill_positive, put_is}, prefixes.put_tag.Goals.{then-discriminant-lt0, else-discriminant-lt0}}
use Rattle.borsh_json.proofs.prefixes.put_tag.Goals as goal

pub returns : goal.returns
returns c =
    let d = c.args.discriminant in
    let e : c.if-discriminant-lt0.fill ≡ fill_of d = elim c.if-discriminant-lt0.branch [
      | then-discriminant-lt0 w ↦ w.fill-is ∙ fill_negative d c.ranges.discriminant w.if-discriminant-lt0.true
      | else-discriminant-lt0 w ↦ w.fill-is ∙ fill_positive d c.ranges.discriminant w.if-discriminant-lt0.false
    ] in
    put_is c.put_wide.result c.put_wide.new.out.items c.args.out.now.items c.args.width _ c.if-discriminant-lt0.fill _ _ c.to_le_bytes.ensures (tag_is d c.args.width c.if-discriminant-lt0.fill c.ranges.discriminant e) c.put_wide.ensures
