-- What is told of the names of a plan, as it is written.
use Rattle.std.proofs.{Common.{◌≡◌, ℕ, zero, suc, ◌+◌, ◌<◌, ◌≤◌, List, [], ◌∷◌, ◌++◌, length, take, map, Option, Some, Bool, true, false, All, inl, inr, refl, sym, ◌∙◌, ap, subst, arith, append_assoc, if◌then◌else◌, MatchBool, Decides, codes, option_and_then, option_map, slice_get}, Math.Seq.{take-length}, lemmas.List.{map-append}, lemmas.List.Elements.{All-nil, All-push}}
use mathlib.Core.Bool.{not}
use Rattle.json.specs.{Json.{object, if_last, value, max_depth}, Lex.{tokens}, Print.{print}, Token.{Token}, Written.{Written}, Tree.{json_tokens, members_tokens, members_depth, depth, MembersHaveNumbers}}
use Rattle.json.specs.Token as token
use Rattle.json.proofs.{Printed.Tokens.{tokens-print}, Printed.Trees.{document-print, ArePrintable-json_tokens}}
use Rattle.borsh_plan.specs.declared.named.Named.{Named}
use Rattle.borsh_json.specs.{declared.kinds.Elements.{Elements}, declared.kinds.Kind.TheVariants.{ByteList}, declared.order.Ordered.{Ordered}, declared.order.Ordered.TheVariants.{Array, List as Counted, Tuple, Other}, Forms.{Form, HasNoBytes}, Names.{HasOtherKeys, HasToldKeys, IsListWord, IsWord, TellsNames, word_members}, Ordered.{Order, other, HasOrder}, Orders.{HasKeyOrder, IsOrderOf, KeysAscend}, Places.{IsAt, IsKindOf, IsListOf, lengths_of}, Table.{no_bytes, byte_list, list}}
use Rattle.borsh_json.proofs.{InOrderLaws.{keys_one}, OrderLaws.{order_one}}

abbrev pub Told : Type 0
Told = List ℕ × List ℕ

-- names and their words
abbrev pub told_tokens : List Told → List Token
told_tokens [] = []
told_tokens (p ∷ ps) = token.key p.0 ∷ token.string p.1 ∷ told_tokens ps

told_push : (ps : List Told) (q : Told) → told_tokens (ps ++ q ∷ []) ≡ told_tokens ps ++ token.key q.0 ∷ token.string q.1 ∷ []
told_push [] q = refl
told_push (p ∷ ps) q = ap (λ ts. token.key p.0 ∷ token.string p.1 ∷ ts) (told_push ps q)

told_end : (ps : List Told) → told_tokens ps ++ token.end_object ∷ [] ≡ members_tokens (word_members ps)
told_end [] = refl
told_end (p ∷ ps) = ap (λ ts. token.key p.0 ∷ token.string p.1 ∷ ts) (told_end ps)

no_numbers : (ps : List Told) → MembersHaveNumbers (word_members ps)
no_numbers [] = tt
no_numbers (p ∷ ps) = (tt, no_numbers ps)

flat : (ps : List Told) → members_depth (word_members ps) ≡ 0
flat [] = refl
flat (p ∷ ps) = (let f = flat ps in omega (arith, f))

next_named : (ns : List Named) (k : ℕ) → k < length ns → (n : Named) × (slice_get ns k ≡ Some n) × (take (suc k) ns ≡ take k ns ++ n ∷ [])
next_named [] k h = (let none : ⊥ = omega (arith, h) in absurd none)
next_named (n ∷ ns) zero h = (n, refl, refl)
next_named (n ∷ ns) (suc k) h =
    let r = next_named ns k (omega (arith, h)) in
    (r.0, r.1, ap (λ l. n ∷ l) r.2)

-- the token was written
abbrev pub Puts : Written → Written → Token → Type 0
Puts old new t = (new.before ≡ old.before) × (new.tokens ≡ old.tokens ++ t ∷ [])

module _ (F : List ℕ → Option Form) (ns : List Named) where
  -- ---- words
  pub empty_word : (x : List ℕ) (b : Bool) → b ≡ true → Decides b (HasNoBytes F x) → IsWord F x (codes "empty")
  empty_word x b e d = inl (no_bytes, inl (d.0 e, refl), refl)

  not_both : (b : Bool) → b ≡ true → b ≡ false → ⊥
  not_both b e f = cc

  pub not_empty : (x : List ℕ) (b : Bool) → b ≡ false → Decides b (HasNoBytes F x) → HasNoBytes F x → ⊥
  not_empty x b e d h = not_both b (d.1 h) e

  told_keys : (x k : List ℕ) (found : Ordered) → ((at : ℕ) → found ≡ Other at → ⊥) → KeysAscend F ns x k found → HasToldKeys F x
  told_keys x k found n h = (h.0, k, h.1, λ o. by found n (subst (λ (o : Order). IsOrderOf F ns k found o) (order_one F k h.2.0 other h.2.1 o) h.2.2))
    where
      by : (found : Ordered) → ((at : ℕ) → found ≡ Other at → ⊥) → IsOrderOf F ns k found other → ⊥
      by (Array m at) n i = let q = i.2 in cc
      by (Counted w at) n i = let q = i.2 in cc
      by (Tuple at m) n i = let q = i.4 in cc
      by (Other at) n i = n at refl
      by found n i = cc

  other_keys : (x k : List ℕ) (at : ℕ) → KeysAscend F ns x k (Other at) → HasOtherKeys F x
  other_keys x k at h e j keys = subst (λ k. HasOrder F k other) (keys_one F x h.0 e k j h.1 keys) (subst (λ (o : Order). HasOrder F k o) h.2.2.1 h.2.1)

  -- whether an order of keys is told
  pub sorted_keys : (x : List ℕ) (order : Option Ordered) (found : Ordered) (b : Bool) → order ≡ Some found → MatchBool b ((at : ℕ) × (found ≡ Other at)) ((at : ℕ) → found ≡ Other at → ⊥) → HasKeyOrder F ns x order → MatchBool (not b) (HasToldKeys F x) (HasOtherKeys F x)
  sorted_keys x order found true e t h =
      let k = subst (λ (found : Ordered). HasKeyOrder F ns x (Some found)) t.1 (subst (λ (o : Option Ordered). HasKeyOrder F ns x o) e h) in
      other_keys x k.0 t.0 k.1
  sorted_keys x order found false e t h =
      let k = subst (λ (o : Option Ordered). HasKeyOrder F ns x o) e h in
      told_keys x k.0 found t k.1

  -- the words of lists
  list_word_of : (x list_word word : List ℕ) (b : Bool) → MatchBool b (HasToldKeys F x) (HasOtherKeys F x) → word ≡ (if b then codes "sorted " ++ list_word else list_word) → IsListWord F x list_word word
  list_word_of x list_word word true m w = inl (m, w)
  list_word_of x list_word word false m w = inr (m, w)

  pub bytes_word : (x : List ℕ) (f : Form) (es : Elements) (b : Bool) (word : List ℕ) → MatchBool b (HasToldKeys F x) (HasOtherKeys F x) → word ≡ (if b then codes "sorted byte list" else codes "byte list") → IsKindOf F ns x f (ByteList es) → IsWord F x word
  bytes_word x f es true word m e k = inl (byte_list (lengths_of f) k.0, k.2, list_word_of x (codes "byte list") word true m e)
  bytes_word x f es false word m e k = inl (byte_list (lengths_of f) k.0, k.2, list_word_of x (codes "byte list") word false m e)

  pub list_word : (x : List ℕ) (f : Form) (es : Elements) (b : Bool) (word : List ℕ) → MatchBool b (HasToldKeys F x) (HasOtherKeys F x) → word ≡ (if b then codes "sorted list" else codes "list") → IsListOf F ns x f es.at → IsWord F x word
  list_word x f es true word m e k = inl (list (lengths_of f) k.0, k.2, list_word_of x (codes "list") word true m e)
  list_word x f es false word m e k = inl (list (lengths_of f) k.0, k.2, list_word_of x (codes "list") word false m e)

  -- ---- the text
  -- an object was begun, and has the first names
  abbrev pub HasTold : ℕ → Written → Type 0
  HasTold k w =
      (w.before ≡ []) × (ps : List Told) × (w.tokens ≡ token.begin_object ∷ told_tokens ps) × (map (λ p. p.0) ps ≡ map (λ n. n.name.now) (take k ns))
      × All (λ p. IsWord F p.0 p.1) ps

  pub told_none : (old new : Written) → old.before ≡ [] → old.tokens ≡ [] → Puts old new token.begin_object → HasTold 0 new
  told_none old new b t a = (a.0 ∙ b, [], a.1 ∙ ap (λ ts. ts ++ token.begin_object ∷ []) t, refl, All-nil (λ p. IsWord F p.0 p.1))

  pub told_next : (k : ℕ) (name word : List ℕ) (old mid new : Written) → HasTold k old → k < length ns
      → ((x : List ℕ) → IsAt ns k x → name ≡ x) → ((x : List ℕ) → IsAt ns k x → IsWord F x word)
      → Puts old mid (token.key name) → Puts mid new (token.string word) → HasTold (k + 1) new
  told_next k name word old mid new h l is w a b =
      let n = next_named ns k l in
      let x = n.0.name.now in
      let i : IsAt ns k x = ap (λ o. option_map (λ m. m.name.now) o) n.1 in
      let e = is x i in
      let one_more : suc k ≡ k + 1 = omega arith in
      let ps = h.1 in (
        b.0 ∙ a.0 ∙ h.0,
        ps ++ (x, word) ∷ [],
        b.1 ∙ ap (λ ts. ts ++ token.string word ∷ []) (a.1 ∙ ap (λ ts. ts ++ token.key name ∷ []) h.2) ∙ append_assoc (token.begin_object ∷ told_tokens ps) (token.key name ∷ []) (token.string word ∷ [])
            ∙ ap (λ y. token.begin_object ∷ (told_tokens ps ++ token.key y ∷ token.string word ∷ [])) e ∙ ap (λ ts. token.begin_object ∷ ts) (sym (told_push ps (x, word))),
        map-append (λ p. p.0) ps ((x, word) ∷ []) ∙ ap (λ l. l ++ x ∷ []) h.3 ∙ sym (map-append (λ m. m.name.now) (take k ns) (n.0 ∷ [])) ∙ ap (λ l. map (λ m. m.name.now) l) (sym n.2 ∙ ap (λ m. take m ns) one_more),
        All-push (λ p. IsWord F p.0 p.1) ps (x, word) h.4 (w x i),
      )

  pub told_all : (text : List ℕ) (old new : Written) → HasTold (length ns) old → Puts old new token.end_object → tokens text ≡ new.tokens → TellsNames F ns text
  told_all text old new h a e =
      let ps = h.1 in
      let j = object (word_members ps) in
      let all : tokens text ≡ json_tokens j = e ∙ a.1 ∙ ap (λ ts. ts ++ token.end_object ∷ []) h.2 ∙ ap (λ ts. token.begin_object ∷ ts) (told_end ps) in
      let s : tokens text ≡ tokens (print (json_tokens j)) = all ∙ sym (tokens-print (json_tokens j) (ArePrintable-json_tokens j (no_numbers ps))) in
      let low : depth j ≤ max_depth = (let f = flat ps in omega (arith, f)) in
      (ps, ap (λ ts. option_and_then (λ p. if_last p.0 p.1) (value max_depth ts)) s ∙ document-print j (no_numbers ps) low, h.3 ∙ ap (λ l. map (λ n. n.name.now) l) (take-length ns), h.4)
