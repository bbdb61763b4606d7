use Rattle.std.specs.Prelude.{Option, unwrap_or, []}
use Rattle.std.specs.Option.{SomeIff}
use Rattle.std.proofs.Common.{None, Some, ℕ, ◌≡◌, ◌*◌, ◌<◌, ◌+◌, ◌∷◌, replicate, append-nil, subst, sym, ap, ◌∙◌, arith}
use Rattle.borsh_plan.specs.{Plan.definitions_of, Plan.names_of, Names.name_at}
use Rattle.borsh_values.specs.declared.{frames.Rest.TheVariants.Parts, runs.Passed.Passed}
use Rattle.borsh_values.specs.Cursor.{remaining}
use Rattle.borsh_values.specs.Free.{FreeSize, FreeSizes, IsFreeFront}
use Rattle.borsh_values.proofs.Walk.{some_step, parts_on, fits_parts, fits_copies}
use Rattle.borsh_values.proofs.Bytes.{small_bytes}
use Rattle.borsh_values.proofs.FreeLaws.{first_free, free_copies, free_one, size_free, some_factor}
use Rattle.borsh_values.proofs.runs.free_front.Goals as goal

product_is : (P : Type 0) (v : ℕ) (o : Option ℕ) → SomeIff o P v → 0 < unwrap_or o 0 → unwrap_or o 0 ≡ v
product_is P v None h some = absurd (omega arith)
product_is P v (Some n) h some = h.1

pub returns-then-all-left : goal.returns-then-all-left
returns-then-all-left c =
    let l = c.args.plan.now in
    let C = definitions_of l in
    let ns = names_of l in
    let at = c.in-Copies.at in
    let k = c.in-Copies.count in
    let n = c.size.result in
    let some = c.if-all-gt0.true in
    let low = fits_copies ns c.args.rest at k c.in-Copies.is c.requires.fits in
    let r = c.unwrap_or-all.ensures in
    let e : c.unwrap_or-all.result ≡ k * n = r ∙ product_is _ _ c.checked_mul.result c.checked_mul.ensures (subst (λ i. 0 < i) r some) in
    let f : FreeSize C (name_at ns at) n = size_free l at n c.size.ensures low (some_factor k n (subst (λ i. 0 < i) e some)) in
    let step = some_step ns c.args.rest in
    let left = c.if-all-left.true in
    let small = small_bytes c.args.left.now (λ k. let b = c.type_inv.left k in omega (arith, b)) in
    record {
      names = replicate k (name_at ns at);
      first = first_free C c.args.left.now c.unwrap_or-all.result (subst (λ i. FreeSizes C (replicate k (name_at ns at)) i) (sym e) (free_copies C k n f)) (omega (arith, left)) small;
      parts = ap (λ r. remaining ns r) c.in-Copies.is ∙ sym (append-nil (replicate k (name_at ns at)));
      some = some;
      fits = low;
      steps = omega (arith, step);
    }

pub returns-then-size-left : goal.returns-then-size-left
returns-then-size-left c =
    let l = c.args.plan.now in
    let C = definitions_of l in
    let ns = names_of l in
    let at = c.in-Parts.at in
    let next = c.in-Parts.next in
    let part = c.in_ok-part-in-Parts.part in
    let size = c.size-size.result in
    let some = c.if-size-gt0.true in
    let low = fits_parts ns c.args.rest at next c.in-Parts.is c.requires.fits in
    let g = parts_on ns at next part low c.in_ok-part-in-Parts.ensures.place in
    let f : FreeSize C (name_at ns part) size = size_free l part size c.size-size.ensures g.within some in
    let left = c.if-size-left.true in
    let small = small_bytes c.args.left.now (λ k. let b = c.type_inv.left k in omega (arith, b)) in
    let p : Passed = record { taken = size; rest = Parts at (next + 1) } in
    subst (λ r. IsFreeFront C ns r c.args.left.now p) (sym c.in-Parts.is) (record {
      names = name_at ns part ∷ [];
      first = first_free C c.args.left.now size (free_one C size f) (omega (arith, left)) small;
      parts = g.parts;
      some = some;
      fits = g.fits;
      steps = g.steps;
    })
