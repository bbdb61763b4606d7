-- Facts that follow from premises. The data of an implementation can't cite the laws of a bound, but it can name what a
-- fact would need; below its functions, the implementation proves the premises.

pub record Conditional (T : Type 0) : Type 1 where
  pub premises : Type 0
  pub fact : premises → T

-- a fact without premises
abbrev pub always : {T : Type 0} → T → Conditional T
always t = record { premises = Unit {0}; fact = λ _. t }

-- a fact that is a premise
abbrev pub assumed : (P : Type 0) → Conditional P
assumed P = record { premises = P; fact = λ p. p }

-- what follows from one, two and three such facts
abbrev pub from : {S T : Type 0} → (S → T) → Conditional S → Conditional T
from f s = record { premises = s.premises; fact = λ p. f (s.fact p) }

abbrev pub from_two : {R S T : Type 0} → (R → S → T) → Conditional R → Conditional S → Conditional T
from_two f r s = record { premises = r.premises × s.premises; fact = λ p. f (r.fact p.0) (s.fact p.1) }

abbrev pub from_three : {Q R S T : Type 0} → (Q → R → S → T) → Conditional Q → Conditional R → Conditional S → Conditional T
from_three f q r s = record { premises = q.premises × r.premises × s.premises; fact = λ p. f (q.fact p.0) (r.fact p.1) (s.fact p.2) }

-- the premises of two parts
abbrev pub both : {P Q : Type 0} → P → Q → P × Q
both p q = (p, q)
