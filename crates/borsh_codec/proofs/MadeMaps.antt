-- Entries of maps that were made of entries that were read.
use Rattle.std.proofs.Common.{◌≡◌, Bool, true, false, List, [], ◌∷◌, None, refl, sym, subst}
use Rattle.std.specs.Prelude.{if◌then◌else◌, IfSome}
use Rattle.std.specs.Cmp.{IsEquivalence}
use Rattle.std.specs.List.{All, IsDistinct}
use Rattle.std.specs.Map.{keys_of, lookup, update_all}
use Rattle.std.proofs.lemmas.List.Elements.{All-nil, All-cons, All-head, All-tail, All-weaker}
use Rattle.std.proofs.lemmas.Map.{lookup-none}
use Rattle.std.proofs.lemmas.Map.Entries.{lookup_head, lookup_tail, none_past_head}
use Rattle.std.proofs.lemmas.Map.Keys.{IsDistinct-tail}
use Rattle.std.proofs.lemmas.Map.Made.{IfSome-update_all}
use Rattle.indexmap.specs.IndexMap.{insert_entry, insert_all}
use Rattle.borsh_codec.specs.Codec.{Codec}
use Rattle.borsh_codec.specs.Maps.{MadeEntries, after_inserts}

module _ {K V : Type 0} {eq : K → K → Bool} (laws : IsEquivalence eq) where
  -- where the keys differ, what holds of what is found at each key holds of each entry
  each_entry : (P : K → V → Type 0) (es : List (K × V)) → IsDistinct eq (keys_of es) → ((q : K) → IfSome (lookup (eq q) es) (P q)) → All (λ e. P e.0 e.1) es
  each_entry P [] d h = All-nil (λ e. P e.0 e.1)
  each_entry P (e ∷ es) d h =
      All-cons (λ e. P e.0 e.1) e es
      (subst (λ o. IfSome o (P e.0)) (lookup_head (eq e.0) e es (laws.refl e.0)) (h e.0))
      (each_entry P es (IsDistinct-tail eq e.0 (keys_of es) d) (λ q. behind q (eq q e.0) refl))
    where
      behind : (q : K) (b : Bool) → eq q e.0 ≡ b → IfSome (lookup (eq q) es) (P q)
      behind q true i = subst (λ o. IfSome o (P q)) (sym (lookup-none (eq q) es (none_past_head laws q e es d i))) tt
      behind q false i = subst (λ o. IfSome o (P q)) (lookup_tail (eq q) e es i) (h q)

  module _ (item : Codec (K × V)) where
    -- the value was made with the key or an equal one
    abbrev Made : K → V → Type 0
    Made q v = (k : K) × (eq k q ≡ true) × item.made (k, v)

    -- the value of each entry came with an equal key
    pub made_collected : (read es : List (K × V)) → IsDistinct eq (keys_of es) → ((q : K) → lookup (eq q) es ≡ update_all eq (λ _. None) read q) → All item.made read → MadeEntries eq item es
    made_collected read es d h m =
        each_entry Made es d (λ q. subst (λ o. IfSome o (Made q)) (sym (h q))
        (IfSome-update_all eq (Made q) q (λ _. None) read tt (All-weaker item.made (λ p. eq p.0 q ≡ true → Made q p.1) (λ p a i. (p.0, i, a)) read m)))

    made_inserted : (k : K) (v : V) (es : List (K × V)) → MadeEntries eq item es → item.made (k, v) → MadeEntries eq item (insert_entry eq es k v)
    made_inserted k v [] m p = All-cons (λ e. Made e.0 e.1) (k, v) [] (k, laws.refl k, p) m
    made_inserted k v (e ∷ es) m p = by (eq k e.0) refl (made_inserted k v es (All-tail (λ e. Made e.0 e.1) e es m) p)
      where
        by : (b : Bool) → eq k e.0 ≡ b → MadeEntries eq item (insert_entry eq es k v) → MadeEntries eq item (if b then (e.0, v) ∷ es else e ∷ insert_entry eq es k v)
        by true i h = All-cons (λ e. Made e.0 e.1) (e.0, v) es (k, i, p) (All-tail (λ e. Made e.0 e.1) e es m)
        by false i h = All-cons (λ e. Made e.0 e.1) e (insert_entry eq es k v) (All-head (λ e. Made e.0 e.1) e es m) h

    made_in_turn : (done read : List (K × V)) → MadeEntries eq item done → All item.made read → MadeEntries eq item (insert_all eq done read)
    made_in_turn done [] m a = m
    made_in_turn done (e ∷ read) m a = made_in_turn (insert_entry eq done e.0 e.1) read (made_inserted e.0 e.1 done m (All-head item.made e read a)) (All-tail item.made e read a)

    -- inserted in turn
    pub made_after : (read : List (K × V)) → All item.made read → MadeEntries eq item (after_inserts eq read)
    made_after read a = made_in_turn [] read (All-nil (λ e. Made e.0 e.1)) a
