use Rattle.std.proofs.Common.{◌≡◌, refl, sym, ◌∙◌, ap, subst, arith, Some, inl, inr}
use Rattle.std.proofs.lemmas.Bool.{cases_lt}
use Rattle.std.proofs.lemmas.Option.{slice_get_read}
use Rattle.std.specs.Prelude.{slice_get}
use Rattle.borsh_compare.specs.Alike.{field_names}
use Rattle.borsh_compare.proofs.Found.{field_step, fields_same}
use Rattle.borsh_compare.proofs.alike.fields_alike.Goals as goal

pub loop-index-preserved : goal.loop-index-preserved
loop-index-preserved c = λ i x y low p q. elim (cases_lt i c.loop-index.index) [
  | inl h ↦ c.loop-index.invariant i x y h p q
  | inr h ↦ (
      let n = c.loop-index.index in
      let l = c.if-old-new.false in
      let s = slice_get_read c.args.old.now _ n c.index-old-index.result refl (omega arith) c.index-old-index.is in
      let t = slice_get_read c.args.new.now _ n c.index-new-index.result refl (let k = c.loop-index-test.true in omega (arith, k, l)) c.index-new-index.is in
      let z : i ≡ n = omega (arith, low, h) in
      field_step c.args.old.now c.args.new.now n _ _ s t (c.is_same_name.ensures c.if-not-is_same_name.false) x y (ap (λ m. slice_get (field_names c.args.old.now) m) (sym z) ∙ p) (ap (λ m. slice_get (field_names c.args.new.now) m) (sym z) ∙ q))
]

pub returns : goal.returns
returns c = λ e. fields_same c.args.old.now c.args.new.now c.if-old-new.false (λ i x y low p q. c.loop-index.invariant i x y (let t = c.loop-index-test.false in omega (arith, t, low)) p q)
