-- `==` of items that are used is equality of what they say.
use Rattle.std.proofs.Common.{◌≡◌, Bool, refl, sym, ap, true≢false, Decides}
use Rattle.std.proofs.lemmas.Bool.Decides.{Decides-eqb, Decides-like, Decides-and}
use Rattle.borsh_definitions.proofs.Laws.Equality.{each-Decides, text-Decides}
use Rattle.borsh_source.specs.declared.uses.Given.{Given}
use Rattle.borsh_source.specs.declared.uses.Given.TheVariants.{Unread, Named, Number}
use Rattle.borsh_source.specs.declared.uses.Use.{Use}
use Rattle.borsh_source.specs.contracts.uses.GivenPartialEq.TheImpl as of_given
use Rattle.borsh_source.specs.contracts.uses.UsePartialEq.TheImpl as of_uses
use Rattle.borsh_source.specs.Views.{stands, used}

abbrev same_given : Given → Given → Bool
same_given = (of_given.ghosts).eq

abbrev pub same_use : Use → Use → Bool
same_use = (of_uses.ghosts).eq

given-Decides : (a b : Given) → Decides (same_given a b) (stands a ≡ stands b)
given-Decides Unread Unread = (λ e. refl, λ e. refl)
given-Decides Unread (Named n) = (λ t. absurd (true≢false (sym t)), λ p. absurd (cc))
given-Decides Unread (Number n) = (λ t. absurd (true≢false (sym t)), λ p. absurd (cc))
given-Decides (Named m) Unread = (λ t. absurd (true≢false (sym t)), λ p. absurd (cc))
given-Decides (Named m) (Named n) = Decides-like _ (λ e. (cc)) (λ e. (cc)) (text-Decides m n)
given-Decides (Named m) (Number n) = (λ t. absurd (true≢false (sym t)), λ p. absurd (cc))
given-Decides (Number m) Unread = (λ t. absurd (true≢false (sym t)), λ p. absurd (cc))
given-Decides (Number m) (Named n) = (λ t. absurd (true≢false (sym t)), λ p. absurd (cc))
given-Decides (Number m) (Number n) = Decides-like _ (λ e. (cc)) (λ e. (cc)) (Decides-eqb m n)

pub use-Decides : (a b : Use) → Decides (same_use a b) (used a ≡ used b)
use-Decides a b =
    Decides-like _ (λ p. let h = p.0 in let t = p.1 in cc) (λ e. (ap (λ q. q.item) e, ap (λ q. q.given) e)) (Decides-and _ _ (Decides-eqb a.item b.item) (each-Decides same_given stands given-Decides a.given.items b.given.items))
