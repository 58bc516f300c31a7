-- Facts about an option that is None, and about the value of one that isn't.
use Rattle.std.proofs.Common.{◌≡◌, Option, None, Some, IfNone, IfSome, subst}

pub if_none : {X : Type 0} {A B : Type 0} (found : Option X) → (A → B) → IfNone found A → IfNone found B
if_none None f a = f a
if_none (Some x) f a = a

pub of_none : {X : Type 0} (Fact : Type 0) (found : Option X) → found ≡ None → IfNone found Fact → Fact
of_none Fact found none fact = subst (λ o. IfNone o Fact) none fact

pub of_some : {X : Type 0} (Fact : X → Type 0) (found : Option X) (x : X) → found ≡ Some x → IfSome found Fact → Fact x
of_some Fact found x some fact = subst (λ o. IfSome o Fact) some fact
