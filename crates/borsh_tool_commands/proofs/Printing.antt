-- A reply that is written.
use Rattle.std.proofs.Common.{◌≡◌, ◌∙◌, ℕ, inl, inr, List, [], ◌++◌, Bool, Result, Ok, Err, refl, ap, sym, subst, append-nil}
use Rattle.borsh_io.specs.Sink.{WriterModel, WriterLaws}
use Rattle.borsh_tool_commands.specs.declared.failure.Failure.{Failure}
use Rattle.borsh_tool_commands.specs.declared.replies.Reply.{Reply}
use Rattle.borsh_tool_commands.specs.Many.{WritesMade, IsWriteFailure}
use Rattle.borsh_tool_commands.specs.Replies.{IsReplyOf, Never, Prints}

module _ {W : Type 0} {w : WriterModel W} (IsReply : Bool → List ℕ → Type 0) (IsNone : Failure → Type 0) where
  -- nothing was written
  pub prints-none : (laws : WriterLaws W w) (a : W) (x : Failure) → IsNone x → Prints IsReply IsNone w a a (Err x)
  prints-none laws a x n = record { written = []; wrote = laws.none a; whole = tt; none = inr (refl, n) }

  -- all of it was
  pub prints-whole : {A : Type 0} {a b : W} {made after : List ℕ} (v : A) (is_yes : Bool) → IsReply is_yes made → WritesMade w a b made after (Ok v) → after ≡ [] → Prints IsReply IsNone w a b (Ok is_yes)
  prints-whole {made = made} {after = after} v is_yes r f e =
      let none : f.lost ≡ [] = elim f.whole [ inl n ↦ n | inr h ↦ absurd h.0 ] in
      let all : made ≡ f.written = f.split ∙ ap (λ l. f.written ++ (l ++ after)) none ∙ ap (λ l. f.written ++ l) e ∙ append-nil f.written in
      record { written = f.written; wrote = f.wrote; whole = subst (IsReply is_yes) all r; none = tt }

  -- the writer failed
  pub prints-part : {A : Type 0} {a b : W} {made after : List ℕ} (r : Result A Failure) (x : Failure) (is_yes : Bool) → IsReply is_yes made → WritesMade w a b made after r → IsWriteFailure x → Prints IsReply IsNone w a b (Err x)
  prints-part {made = made} {after = after} r x is_yes p f u =
      let rest : List ℕ = f.lost ++ after in
      let begins : IsReply is_yes (f.written ++ rest) = subst (λ (out : List ℕ). IsReply is_yes out) f.split p in
      record { written = f.written; wrote = f.wrote; whole = tt; none = inl (u, (is_yes, rest, begins)) }

-- what is written of a reply is written of what it replies
pub prints-reply : {W : Type 0} {w : WriterModel W} (IsReply : Bool → List ℕ → Type 0) (IsNone : Failure → Type 0) {a b : W} (reply : Reply) (r : Result Bool Failure) → IsReply reply.is_yes reply.output.items → Prints (IsReplyOf reply) Never w a b r → Prints IsReply IsNone w a b r
prints-reply IsReply IsNone reply (Ok v) is p = record {
  written = p.written;
  wrote = p.wrote;
  whole = subst (λ y. IsReply y p.written) (sym p.whole.0) (subst (IsReply reply.is_yes) (sym p.whole.1) is);
  none = tt;
}
prints-reply IsReply IsNone reply (Err x) is p = record {
  written = p.written;
  wrote = p.wrote;
  whole = tt;
  none = elim p.none [
    | inl h ↦ inl (h.0, (reply.is_yes, h.1.1, subst (IsReply reply.is_yes) (sym h.1.2.1) is))
    | inr h ↦ absurd h.1
  ];
}
