use Rattle.std.proofs.Common.{◌≡◌, suc, ◌+◌, ◌-◌, ◌/◌, length, drop, get_or, refl, sym, ◌∙◌, ap, arith, add-one}
use Rattle.borsh_values.specs.Tags.{tag_from}
use Rattle.borsh_values.proofs.TagLaws.{tag_forth, tag_back, drop_all}
use Rattle.borsh_values.proofs.tags.writes_tag.Goals as goal

pub loop-b-init : goal.loop-b-init
loop-b-init c =
    let z : length c.args.bytes.now - 0 ≡ length c.args.bytes.now = omega arith in
    let a = ap (λ w. tag_from c.args.negative w c.args.number) z in
    record { forth = λ e. a ∙ e; back = λ e. sym a ∙ e }

pub loop-b-preserved : goal.loop-b-preserved
loop-b-preserved c =
    let bs = c.args.bytes.now in
    let n = c.loop-b.b-index in
    let f = c.args.negative in
    let k : n + 1 ≡ suc n = add-one n in
    record {
      forth = λ e. ap (λ j. tag_from f (length bs - j) (c.loop-b.left / 256)) k ∙ (tag_forth f n c.loop-b.left c.tag_byte.result bs c.loop-b-test.true c.if-tag_byte-b.false (c.loop-b.invariant.forth e)).1 ∙ ap (λ j. drop j bs) (sym k);
      back = λ e. c.loop-b.invariant.back (tag_back f n c.loop-b.left c.tag_byte.result bs c.loop-b-test.true c.if-tag_byte-b.false (sym c.tag_byte.ensures) (ap (λ j. tag_from f (length bs - j) (c.loop-b.left / 256)) (sym k) ∙ e ∙ ap (λ j. drop j bs) k));
    }

pub returns-then-tag_byte-b : goal.returns-then-tag_byte-b
returns-then-tag_byte-b c = (
  (λ e. cc),
  λ e. (
      let bs = c.args.bytes.now in
      let r = tag_forth c.args.negative c.loop-b.b-index c.loop-b.left (get_or bs c.loop-b.b-index 0) bs c.loop-b-test.true refl (c.loop-b.invariant.forth e) in
      absurd (c.if-tag_byte-b.true (c.tag_byte.ensures ∙ r.0))),
)

pub returns : goal.returns
returns c = (
  (λ e. c.loop-b.invariant.back (
      let bs = c.args.bytes.now in
      let z : length bs - c.loop-b.b-index ≡ 0 = (let h = c.loop-b-test.false in omega (arith, h)) in
      ap (λ w. tag_from c.args.negative w c.loop-b.left) z ∙ sym (drop_all c.loop-b.b-index bs c.loop-b-test.false))),
  λ e. refl,
)
