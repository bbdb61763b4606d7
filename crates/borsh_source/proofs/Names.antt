-- Whether a type names a parameter.
use Rattle.std.proofs.Common.{◌≡◌, ℕ, suc, zero, ◌+◌, List, Some, None, refl, ◌∙◌, ap, add-one, Bool, true, false, cond, Vec, String, Global}
use Rattle.std.specs.Prelude.{slice_get, string_bytes, codes}
use Rattle.std.specs.Str.{bytes_eq}
use Rattle.borsh_source.specs.Reading.{names, kind_names, path_names, written_names}
use Rattle.borsh_source.specs.declared.tree.Source.{Source}
use Rattle.borsh_source.specs.declared.tree.TypeKind.TheVariants.{Path}
use Rattle.borsh_source.specs.declared.tree.«Type».{«Type» as Written}

-- the type is not there
pub names_nowhere : (S : Source) (d : ℕ) (x : List ℕ) (t : ℕ) → slice_get S.types.items t ≡ None → names S d x t ≡ false
unfolding names
names_nowhere S zero x t e = refl
names_nowhere S (suc d) x t e = ap (λ o. written_names (names S d x) x o) e

at_more : (S : Source) (d : ℕ) (x : List ℕ) (t : ℕ) (w : Written) → slice_get S.types.items t ≡ Some w → names S (suc d) x t ≡ kind_names (names S d x) x w.kind
unfolding names
at_more S d x t w e = ap (λ o. written_names (names S d x) x o) e

-- the type is there
pub names_there : (S : Source) (d less : ℕ) (x : List ℕ) (t : ℕ) (w : Written) → d ≡ less + 1 → slice_get S.types.items t ≡ Some w → names S d x t ≡ kind_names (names S less x) x w.kind
names_there S d less x t w p e = ap (λ k. names S k x t) (p ∙ add-one less) ∙ at_more S less x t w e

-- a path to `PhantomData` names nothing, and any other one itself, or what its arguments name
pub path_phantom : (f : ℕ → Bool) (x : List ℕ) (n : String Global) (ts : Vec ℕ Global) → bytes_eq (string_bytes n) (codes "PhantomData") ≡ true → kind_names f x (Path n ts) ≡ false
path_phantom f x n ts e = ap (λ b. cond b false (path_names f x (string_bytes n) ts.items)) e

pub path_other : (f : ℕ → Bool) (x : List ℕ) (n : String Global) (ts : Vec ℕ Global) → bytes_eq (string_bytes n) (codes "PhantomData") ≡ false → kind_names f x (Path n ts) ≡ path_names f x (string_bytes n) ts.items
path_other f x n ts e = ap (λ b. cond b false (path_names f x (string_bytes n) ts.items)) e
