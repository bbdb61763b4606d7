-- Values without places of their own, as values of any kind.
use Rattle.std.proofs.Common.{◌≡◌, ◌⊎◌, inl, inr, ℕ, List, [], Option, None, refl, sym, subst}
use Rattle.borsh_walks.specs.Container.{IsIn}
use Rattle.borsh_plan.specs.declared.named.Named.{Named}
use Rattle.borsh_json.specs.{declared.kinds.Elements.{Elements as FoundElements}, declared.kinds.Kind.{Kind as Found}, declared.kinds.Kind.TheVariants.{Number as NumberKind, Bool as Truth, Bytes, Float, List as ListKind}, declared.numbers.Number.{Number}, declared.output.Output.{Output}, Forms.{Form}, Found.{IsPrimitiveKind}, Leaves.{IsOpenedAs, WritesLeaf}, Places.{IsKindOf}, Table.{Kind, truth, whole, float, raw}, Writes.{IsWrittenAs, leaf_depth}}

module _ (F : List ℕ → Option Form) (x own : List ℕ) where
  module _ (ns : List Named) (f : Form) where
    pub leaf_whole : (kind : Found) (parts : List (List ℕ)) (old new : Output) → IsOpenedAs F x f own parts → parts ≡ [] → ((es : FoundElements) → kind ≡ ListKind es → ⊥) → WritesLeaf F (leaf_depth kind) x own old new → IsWrittenAs F ns kind x f own old new None
    leaf_whole kind parts old new o e n w = (w, parts, o.1, (λ y i. elim (subst (λ (l : List (List ℕ)). IsIn y l) e i) [ ]), n)

    -- a primitive's kind, of which the JSON has no brackets
    abbrev IsPrimitive : Found → Type 0
    IsPrimitive kind = (leaf_depth kind ≡ 0) × (k : Kind) × IsPrimitiveKind kind k

    pub primitive_no_list : (kind : Found) (k : Kind) → IsPrimitiveKind kind k → (es : FoundElements) → kind ≡ ListKind es → ⊥
    primitive_no_list kind k p es e = subst (λ (q : Found). IsPrimitiveKind q k) e p

    pub primitive_found : (kind : Found) → ((n : Number) × (kind ≡ NumberKind n)) ⊎ (kind ≡ Truth) ⊎ ((n : ℕ) × (kind ≡ Bytes n)) ⊎ ((n : ℕ) × (kind ≡ Float n)) → IsKindOf F ns x f kind → IsPrimitive kind
    primitive_found kind (inl e) k = let n = e.0 in subst IsPrimitive (sym e.1) (refl, whole n.size n.is_signed n.is_non_zero, refl)
    primitive_found kind (inr (inl e)) k = subst IsPrimitive (sym e) (refl, truth, refl)
    primitive_found kind (inr (inr (inl e))) k = subst IsPrimitive (sym e.1) (refl, raw e.0, refl)
    primitive_found kind (inr (inr (inr e))) k =
        let h = subst (λ (q : Found). IsKindOf F ns x f q) e.1 k in
        subst IsPrimitive (sym e.1) (refl, float h.0, (h.0, h.1, refl))
