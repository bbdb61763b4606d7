-- What is read of bytes that may be a value.
use Rattle.std.proofs.Common.{◌≡◌, ◌∙◌, ℕ, ◌<◌, List, [], ◌++◌, length, take, Option, None, Some, IfSome, sym, ap, subst, arith, append-nil, length-append, length-take}
use Rattle.std.specs.Io.KnownBytes.{Consumes, IsAtEnd}
use Rattle.borsh_walks.specs.Container.{Shape, Member}
use Rattle.borsh_values.specs.Membership.{HasNoFront, IsFront}
use Rattle.borsh_values.specs.declared.faults.Fault.{Fault}
use Rattle.borsh_tool_commands.specs.Fronts.{IsRead}
use Rattle.borsh_tool_commands.specs.Fronts.IsRead.{whole, front}

module _ (C : List ℕ → Option Shape) (root bytes : List ℕ) where
  -- a member is in front, and others follow it
  pub more-than-value : (n : ℕ) → IsFront C root bytes n → n < length bytes → (more : List ℕ) → Member C root (bytes ++ more) → ⊥
  more-than-value n f low more m =
      let e : bytes ++ more ≡ take n bytes = f.only (bytes ++ more) [] more m (append-nil (bytes ++ more)) in
      omega (arith, low, ap length e, length-append bytes more, length-take n bytes)

  -- none is in front, whatever follows
  pub no-front : (f : Fault) → ((more : List ℕ) → HasNoFront C root (bytes ++ more) f) → (more : List ℕ) → Member C root (bytes ++ more) → ⊥
  no-front f none more m = (none more).none (bytes ++ more, [], m, sym (append-nil (bytes ++ more)))

  -- the bytes that were read show that
  pub read-front : (a b : Option (List ℕ)) → Consumes a b bytes → ((more : List ℕ) → Member C root (bytes ++ more) → ⊥) → IfSome a (λ all. IsRead C root all bytes)
  read-front None b c none = tt
  read-front (Some xs) None c none = absurd c
  read-front (Some xs) (Some ys) c none = front ys c (λ m. none [] (subst (Member C root) (sym (append-nil bytes)) m)) (λ m. none ys (subst (Member C root) c m))

  -- nothing is left
  pub read-whole : (a b : Option (List ℕ)) → Consumes a b bytes → IsAtEnd b → IfSome a (λ all. IsRead C root all bytes)
  read-whole None b c e = tt
  read-whole (Some xs) None c e = absurd c
  read-whole (Some xs) (Some ys) c e = whole (sym (append-nil bytes) ∙ ap (λ l. bytes ++ l) (sym e) ∙ sym c)
