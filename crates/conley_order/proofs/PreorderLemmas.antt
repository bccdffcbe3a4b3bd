-- At or below, for any two numbers, is reflexive and transitive.
use Rattle.std.proofs.Common.{inl, inr, ℕ, Bool, refl, sym, subst}
use Rattle.conley_order.specs.Preorder.{IsPreorder, IsBelow}

pub below_itself : (n : ℕ) (below : ℕ → ℕ → Bool) (a : ℕ) → IsBelow n below a a
below_itself n below a = inl refl

pub below_on : (n : ℕ) (below : ℕ → ℕ → Bool) → IsPreorder n below → (a b c : ℕ) → IsBelow n below a b → IsBelow n below b c → IsBelow n below a c
below_on n below order a b c (inl e) h = subst (λ x. IsBelow n below x c) (sym e) h
below_on n below order a b c (inr g) (inl e) = subst (IsBelow n below a) e (inr g)
below_on n below order a b c (inr g) (inr h) = inr (g.0, h.1, order.transitive a b c g.0 g.1 h.1 g.2 h.2)
