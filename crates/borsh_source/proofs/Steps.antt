-- Steps one after another.
use Rattle.std.proofs.Common.{◌≡◌, List, [], ◌∷◌, ◌++◌, sym, ap, ◌∙◌, subst, inl, inr}
use Rattle.borsh_definitions.specs.Described.{DefinitionMap}
use Rattle.borsh_source.specs.Lists.{IsListed}
use Rattle.borsh_source.specs.Views.{Used}
use Rattle.borsh_source.specs.Forms.{Entry}
use Rattle.borsh_source.specs.Container.{Adds, Notes, Brought, AreThese}
use Rattle.borsh_source.proofs.Lists.{listed_left, listed_right, listed_cases, listed_at, index_of, get_left}

pub adds_none : (d : DefinitionMap) → Adds d d []
adds_none d = record { keeps = λ n e h. h; has = λ n e h. absurd h; only = λ n e h. inl h }

pub adds_then : {a b c : DefinitionMap} {es fs : List Entry} → Adds a b es → Adds b c fs → Adds a c (es ++ fs)
adds_then {es = es} {fs = fs} p q = record {
  keeps = λ n d h. q.keeps n d (p.keeps n d h);
  has = λ n d h. elim (listed_cases (n, d) es fs h) [ inl i ↦ q.keeps n d (p.has n d i) | inr i ↦ q.has n d i ];
  only = λ n d h. elim (q.only n d h) [
    | inl k ↦ (elim (p.only n d k) [ inl j ↦ inl j | inr j ↦ inr (listed_left (n, d) es fs j) ])
    | inr k ↦ inr (listed_right (n, d) es fs k)
  ];
}

pub notes_none : (u : List Used) → Notes u u []
notes_none u = record { keeps = λ i v h. h; has = λ v h. absurd h; only = λ v h. inl h }

-- what was noted stays so
pub still_noted : {a b us : List Used} → Notes a b us → (x : Used) → IsListed x a → IsListed x b
still_noted {a = a} {b = b} p x h = let r = index_of x a h in listed_at x b r.0 (p.keeps r.0 x r.1)

pub notes_then : {a b c us vs : List Used} → Notes a b us → Notes b c vs → Notes a c (us ++ vs)
notes_then {us = us} {vs = vs} p q = record {
  keeps = λ i x h. q.keeps i x (p.keeps i x h);
  has = λ x h. elim (listed_cases x us vs h) [ inl i ↦ still_noted q x (p.has x i) | inr i ↦ q.has x i ];
  only = λ x h. elim (q.only x h) [
    | inl k ↦ (elim (p.only x k) [ inl j ↦ inl j | inr j ↦ inr (listed_left x us vs j) ])
    | inr k ↦ inr (listed_right x us vs k)
  ];
}

-- what adds nothing, where that is meant so
pub brought_none : {P : List Entry → List Used → Type 0} (d : DefinitionMap) (u : List Used) → P [] [] → Brought P d d u u
brought_none d u p = record { entries = []; uses = []; meant = p; adds = adds_none d; notes = notes_none u }

-- the same meant otherwise
pub brought_as : {P Q : List Entry → List Used → Type 0} {a b : DefinitionMap} {u v : List Used} → Brought P a b u v → ((es : List Entry) (us : List Used) → P es us → Q es us) → Brought Q a b u v
brought_as p f = record { entries = p.entries; uses = p.uses; meant = f p.entries p.uses p.meant; adds = p.adds; notes = p.notes }

-- two steps
pub brought_then : {P Q R : List Entry → List Used → Type 0} {a b c : DefinitionMap} {u v w : List Used} → Brought P a b u v → Brought Q b c v w → ((es fs : List Entry) (us vs : List Used) → P es us → Q fs vs → R (es ++ fs) (us ++ vs)) → Brought R a c u w
brought_then p q f = record {
  entries = p.entries ++ q.entries;
  uses = p.uses ++ q.uses;
  meant = f p.entries q.entries p.uses q.uses p.meant q.meant;
  adds = adds_then p.adds q.adds;
  notes = notes_then p.notes q.notes;
}

-- an item that was noted before
pub notes_known : (us : List Used) (x : Used) → IsListed x us → Notes us us (x ∷ [])
notes_known us x k = record {
  keeps = λ i y h. h;
  has = λ y h. elim h [ inl e ↦ subst (λ z. IsListed z us) e k | inr f ↦ absurd f ];
  only = λ y h. inl h;
}

-- one that wasn't
pub notes_new : (us : List Used) (x : Used) → Notes us (us ++ x ∷ []) (x ∷ [])
notes_new us x = record {
  keeps = λ i y h. get_left us (x ∷ []) i h;
  has = λ y h. listed_right y us (x ∷ []) h;
  only = λ y h. listed_cases y us (x ∷ []) h;
}

-- definitions, and then others
pub these_more : {a b c : DefinitionMap} {u v w : List Used} (es fs gs : List Entry) → gs ≡ es ++ fs → Brought (AreThese es []) a b u v → Brought (AreThese fs []) b c v w → Brought (AreThese gs []) a c u w
these_more es fs gs g p q = brought_then p q (λ ds hs us vs m k. (ap (λ l. l ++ hs) m.0 ∙ ap (λ l. es ++ l) k.0 ∙ sym g, ap (λ l. l ++ vs) m.1 ∙ k.1))
