-- What a container answers that is asked whether it keeps the rules, or for its greatest size.
use Rattle.std.specs.Prelude.{◌≡◌, ℕ, ◌^◌, ◌<◌, ◌≤◌, Bool, true, false, List, [], ◌++◌, Option, Some, None, codes, decimal, option_map, string_bytes}
use Rattle.borsh_walks.specs.Container.{Shape, Rule, Breaks, IsValid, Reached, SizeReaches, IsRecursive, MaxSize, PartialSize}
use Rattle.borsh_walks.specs.Errors.{rule_name}
use Rattle.borsh_walks.specs.declared.answers.Words.{Words}

-- the bytes of words, and of the name behind them, if there is one
abbrev pub words_of : Words → List ℕ × Option (List ℕ)
words_of w = (string_bytes w.text, option_map (λ name. string_bytes name) w.name)

-- the words, and behind a space the name, as `named` writes it
abbrev pub spoken : (List ℕ → List ℕ) → List ℕ × Option (List ℕ) → List ℕ
spoken named (text, None) = text
spoken named (text, Some name) = text ++ (codes " " ++ named name)

-- these are words of which this holds, as `write` writes them
abbrev pub IsSaid : (List ℕ × Option (List ℕ) → List ℕ) → (List ℕ × Option (List ℕ) → Type 0) → List ℕ → Type 0
IsSaid write P out = (w : List ℕ × Option (List ℕ)) × P w × (out ≡ write w)

module _ (C : List ℕ → Option Shape) (root : List ℕ) where
  -- `valid` exactly if each reached name keeps the rules; else a reached name breaks a rule
  abbrev pub SaysRules : Bool → List ℕ × Option (List ℕ) → Type 0
  SaysRules true w = IsValid C root × (w ≡ (codes "valid", None))
  SaysRules false w = (x : List ℕ) × (r : Rule) × Reached C root x × Breaks C r x × (w ≡ (codes "invalid " ++ rule_name r, Some x))

  -- why there is no size below 2^64
  pub data SaysUnsized (w : List ℕ × Option (List ℕ)) : Type 0 where
    overflows : (k : ℕ) → PartialSize C [] root k → 2 ^ 64 ≤ k → w ≡ (codes "overflow", None) → SaysUnsized w
    recurs : IsRecursive C root → w ≡ (codes "recursive", None) → SaysUnsized w
    misses : (x : List ℕ) → SizeReaches C root x → C x ≡ None → w ≡ (codes "missing", Some x) → SaysUnsized w

  -- the greatest size in decimal exactly if there is one below 2^64; else why there is none
  abbrev pub SaysSize : Option ℕ → List ℕ × Option (List ℕ) → Type 0
  SaysSize (Some n) w = MaxSize C root n × (n < 2 ^ 64) × (w ≡ (decimal n, None))
  SaysSize None w = ((n : ℕ) → MaxSize C root n → n < 2 ^ 64 → ⊥) × SaysUnsized w
