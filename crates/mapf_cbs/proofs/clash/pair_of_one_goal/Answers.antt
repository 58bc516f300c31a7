use Rattle.std.proofs.Common.{◌≡◌, false, true, Option, None, Some, IfSome, refl}
use Rattle.mapf_cbs.proofs.OptionLemmas.{if_none}
use Rattle.mapf_cbs.proofs.clash.pair_of_one_goal.Goals as goal

if_some : {X : Type 0} {A B C D : X → Type 0} (found : Option X) → ((x : X) → A x → B x → C x → D x) → IfSome found A → IfSome found B → IfSome found C → IfSome found D
if_some None f a b c = a
if_some (Some x) f a b c = f x a b c

pub returns-clause-some : goal.returns-clause-some
returns-clause-some c = if_some c.first_pair.result (λ pair order is first. record {
  order = order.0;
  within = order.1;
  holds = is.0 refl;
  first = (
    λ a b less above within shared. (let e : false ≡ true = (first.0 a b less above within).1 shared in cc),
    λ b above less shared. (let e : false ≡ true = (first.1 b above less).1 shared in cc),
  );
}) c.first_pair.ensures.pair c.first_pair.ensures.some c.first_pair.ensures.first

pub returns-clause-none : goal.returns-clause-none
returns-clause-none c = if_none c.first_pair.result (λ none i j above within shared. let e : false ≡ true = (none i j above within).1 shared in cc) c.first_pair.ensures.none
