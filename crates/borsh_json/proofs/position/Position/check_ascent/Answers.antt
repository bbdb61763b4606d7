use Rattle.std.proofs.Common.{◌≡◌, ◌++◌, ◌∷◌, ◌∙◌, [], List, Option, Some, sym, subst, ℕ}
use Rattle.borsh_json.specs.{declared.error.PartError.{PartError}, declared.error.PartError.TheVariants.{OutOfMemory, Refused}, declared.order.Ordered.{Ordered}, Descents.{PrimitivesDescend}, Forms.{Form}, Frames.{HasPath, IsFallOf}, InOrder.{Step, element}, Orders.{ArePrimitives}}
use Rattle.borsh_json.proofs.position.Position.check_ascent.Goals as goal

pub returns-in-None-clause-rises : goal.returns-in-None-clause-rises
returns-in-None-clause-rises c found q F ns e a i d =
    let bytes = c.args.bytes.now in
    let g : Some found ≡ Some c.in-Some.order = sym q ∙ c.in-Some.is in
    let o : found ≡ c.in-Some.order = cc in
    let n = sym c.from.ensures in
    c.in-None.ensures F ns e (subst (λ n. ArePrimitives F ns e c.in-Some.order n bytes) n (subst (λ (o : Ordered). ArePrimitives F ns e o c.args.elements.size bytes) o a)) i (subst (λ n. PrimitivesDescend F e n bytes i) n d)

fall_of : (root : List ℕ) (outer : List Step) (F : List ℕ → Option Form) (e : List ℕ) (n : ℕ) (bytes : List ℕ) (i : ℕ) (error : PartError) → HasPath root (outer ++ element i ∷ []) error → PrimitivesDescend F e n bytes i → IsFallOf root outer F e n bytes error
fall_of root outer F e n bytes i OutOfMemory p d = tt
fall_of root outer F e n bytes i (Refused path r) p d = (i, p, d)

pub returns-in-Some-first_descent-clause-falls : goal.returns-in-Some-first_descent-clause-falls
returns-in-Some-first_descent-clause-falls c =
    let i = c.in-Some-first_descent.index in
    let bytes = c.args.bytes.now in
    let n = c.from.ensures in
    (c.in-Some.order, c.in-Some.is, λ F ns e a. fall_of _ _ F e _ _ i c.refused_at.result (c.refused_at.ensures.path _ _ c.path_to.ensures) (subst (λ n. PrimitivesDescend F e n bytes i) n (c.in-Some-first_descent.ensures F ns e (subst (λ n. ArePrimitives F ns e c.in-Some.order n bytes) (sym n) a))))
