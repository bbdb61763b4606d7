-- Values whose definitions go with their bytes in one way only, one after another.
use Rattle.std.proofs.Common.{◌≡◌, ℕ, suc, zero, List, [], ◌∷◌, ◌++◌, replicate, Option, Some, refl, sym, subst, append_assoc, append-nil}
use Rattle.borsh_walks.specs.Container.{Members}
use Rattle.borsh_walks.specs.Container as shape
use Rattle.borsh_values.specs.Nodes.{Opens}
use Rattle.borsh_values.proofs.MemberLaws.{member_as, members_head, no_more, opens_once}
use Rattle.borsh_json.specs.{Forms.{Form, primitive, shapes}, Only.{IsOpened, AreOnly, none_only, empty_only, opened_only}}
use Rattle.borsh_json.proofs.{FormKinds.{shaped}, FoundLaws.{full_primitive}}

module _ (F : List ℕ → Option Form) where
  -- a value, with its parts
  pub value_only : {x own bs : List ℕ} {parts : List (List ℕ)} {f : Form} → IsOpened F x f own parts → AreOnly F parts bs → AreOnly F (x ∷ []) (own ++ bs)
  value_only {own = own} {bs = bs} {parts = parts} {f = f} o a = opened_only f own parts o (subst (λ l. AreOnly F l bs) (sym (append-nil parts)) a)

  pub only_joined : {ps qs : List (List ℕ)} {xs ys : List ℕ} → AreOnly F ps xs → AreOnly F qs ys → AreOnly F (ps ++ qs) (xs ++ ys)
  only_joined none_only b = b
  only_joined (empty_only z a) b = empty_only z (only_joined a b)
  only_joined {qs = qs} {ys = ys} (opened_only {x = x} {bs = bs} {xs = ps} f own parts o a) b = subst (λ l. AreOnly F (x ∷ (ps ++ qs)) l) (sym (append_assoc own bs ys)) (opened_only f own parts o (subst (λ l. AreOnly F l (bs ++ ys)) (append_assoc parts ps qs) (only_joined a b)))

  -- primitives of some bytes
  pub copies_only : {e : List ℕ} (n k : ℕ) {bs : List ℕ} → F e ≡ Some (primitive (suc n)) → Members (shapes F) (replicate k e) bs → AreOnly F (replicate k e) bs
  copies_only n zero c ms = subst (λ b. AreOnly F [] b) (sym (no_more ms)) none_only
  copies_only {e = e} n (suc k) c ms =
      let h = members_head (shapes F) ms in
      let own = h.0 in
      let a = member_as (shapes F) (shape.primitive (suc n)) (shaped (F e) c) h.2 in
      let o : Opens (shapes F) (shape.primitive (suc n)) own [] = (a.0, a.1, refl) in
      subst (λ b. AreOnly F (e ∷ replicate k e) b) (sym h.4) (opened_only (primitive (suc n)) own [] (full_primitive F c, c, o, opens_once (shapes F) (shape.primitive (suc n)) own [] tt o, tt, tt) (copies_only n k c h.3))
