-- The parts of a value whose order isn't told, as its own bytes say them.
use Rattle.std.proofs.{Common.{◌≡◌, ℕ, suc, zero, ◌≤◌, List, [], ◌∷◌, length, map, take, replicate, Option, Some, None, refl, sym, ◌∙◌, ap, subst, ℤ, slice_get, string_bytes}, Math.Seq.{take-length}}
use Rattle.borsh_walks.specs.{Container.{sequence, product, choice, references, variant_names}, declared.definition.Fields.{Fields}, declared.definition.Fields.TheVariants.{NamedFields, UnnamedFields, Empty}}
use Rattle.borsh_plan.specs.declared.named.Named.{Named}
use Rattle.borsh_values.specs.{Nodes.{IsCountOf}, Tags.{number_of}}
use Rattle.borsh_json.specs.{declared.order.Pending.TheVariants.{Copies, PartCopies}, Forms.{Form, form_of_struct, shape_of_form}, Ordered.{node_size, IsCount, HasParts, IsNode, a_copy, variant_of}, Orders.{IsPending}, Places.{IsAt}}

copies_mapped : (k : ℕ) (e : List ℕ) → map (λ p. a_copy p) (replicate k e) ≡ replicate k (a_copy e)
copies_mapped zero e = refl
copies_mapped (suc k) e = ap (λ ts. a_copy e ∷ ts) (copies_mapped k e)

counted : (w lo hi : ℕ) (e own : List ℕ) (k : ℕ) → IsCountOf (sequence w lo hi e) own (Some k) → length own ≡ w → IsCount w lo own k
counted zero lo hi e own k h l = let q : k ≡ lo = cc in q
counted (suc w) lo hi e own k h l = (h.2, h.0 ∙ ap (λ n. number_of (take n own)) (sym l) ∙ ap (λ bs. number_of bs) (take-length own))

variant_name : (vs : List (ℤ × List ℕ)) (i : ℕ) (k : ℤ) (p : List ℕ) → slice_get vs i ≡ Some (k, p) → slice_get (variant_names vs) i ≡ Some p
variant_name [] i k p e = cc
variant_name (v ∷ vs) zero k p e =
    let w : ℤ × List ℕ = (k, p) in
    let q : v ≡ w = cc in
    ap (λ (v : ℤ × List ℕ). Some v.1) q
variant_name (v ∷ vs) (suc i) k p e = variant_name vs i k p e

-- a struct has parts
pub struct_product : (fs : Fields) → (qs : List (List ℕ)) × (shape_of_form (form_of_struct fs) ≡ product qs)
struct_product (NamedFields fs) = (_, refl)
struct_product (UnnamedFields fs) = (map (λ f. string_bytes f) fs.items, refl)
struct_product Empty = ([], refl)

module _ (F : List ℕ → Option Form) (ns : List Named) (x : List ℕ) (f : Form) (at : ℕ) (own : List ℕ) (there : F x ≡ Some f) (long : length own ≡ node_size (shape_of_form f)) where
  pub product_copies : (qs : List (List ℕ)) → IsAt ns at x → shape_of_form f ≡ product qs → (ps : List (List ℕ)) × IsNode (shape_of_form f) own ps × IsPending F ns (PartCopies at 0) (map (λ p. a_copy p) ps)
  product_copies qs i e = (qs, (long, subst (λ s. HasParts s own qs) (sym e) refl), (x, f, i, there, ap (λ s. map (λ p. a_copy p) (references s)) (sym e)))

  pub sequence_copies : (w lo hi : ℕ) (e : List ℕ) (k : ℕ) → shape_of_form f ≡ sequence w lo hi e → IsCountOf (sequence w lo hi e) own (Some k) → IsAt ns at e → (ps : List (List ℕ)) × IsNode (shape_of_form f) own ps × IsPending F ns (Copies at k) (map (λ p. a_copy p) ps)
  sequence_copies w lo hi e k s c i =
      let n = counted w lo hi e own k c (long ∙ ap (λ s. node_size s) s) in
      (replicate k e, (long, subst (λ s. HasParts s own (replicate k e)) (sym s) (k, n, refl)), (e, i, copies_mapped k e))

  pub variant_copies : (w : ℕ) (vs : List (ℤ × List ℕ)) (p : List ℕ) → shape_of_form f ≡ choice w vs → length own ≤ 8 → variant_of own vs ≡ Some p → IsAt ns at p → (ps : List (List ℕ)) × IsNode (shape_of_form f) own ps × IsPending F ns (Copies at 1) (map (λ p. a_copy p) ps)
  variant_copies w vs p s low v i = (p ∷ [], (long, subst (λ s. HasParts s own (p ∷ [])) (sym s) (subst (λ n. n ≤ 8) (long ∙ ap (λ s. node_size s) s) low, p, v, refl)), (p, i, refl))

  -- the name of a variant's type
  pub variant_there : (w : ℕ) (vs : List (ℤ × List ℕ)) (i : ℕ) (k : ℤ) (p : List ℕ) → shape_of_form f ≡ choice w vs → slice_get vs i ≡ Some (k, p) → slice_get (references (shape_of_form f)) i ≡ Some p
  variant_there w vs i k p s e = ap (λ s. slice_get (references s) i) s ∙ variant_name vs i k p e

  pub no_variant : (w : ℕ) (vs : List (ℤ × List ℕ)) → shape_of_form f ≡ choice w vs → (length own ≤ 8 → variant_of own vs ≡ None) → (ps : List (List ℕ)) → IsNode (shape_of_form f) own ps → ⊥
  no_variant w vs s none ps n =
      let h = subst (λ s. HasParts s own ps) s n.1 in
      let e = none (subst (λ n. n ≤ 8) (sym (long ∙ ap (λ s. node_size s) s)) h.0) in
      let q = sym e ∙ h.2 in
      cc
