-- Constraints of single agents, found by agent and constraint.
use Rattle.std.specs.Prelude.{◌≡◌, ◌↔◌, ℕ, Bool, List, Contains, Option, Some, None, IsTrue, MatchBool}
use Rattle.std.specs.BTreeMap.Range.{IsLeBy}
use Rattle.std.specs.BTreeSet.{contains}
use Rattle.std.specs.declared.cmp.Ordering.{Ordering}
use Rattle.std.specs.Ordering.{nat_cmp, ordering_then}
use Rattle.mapf_lemmas.specs.declared.constraint.PathConstraint.{PathConstraint}
use Rattle.mapf_lemmas.specs.declared.constraint.PathConstraint.TheVariants.{NotAt as not_at, NotMove as not_move}
use Rattle.mapf_lemmas.specs.declared.constraint.PathConstraint.TheVariants.{Clear as clear, Most as most}
use Rattle.mapf_lemmas.specs.declared.constraint.PathConstraint.TheVariants.{Least as least}
use Rattle.mapf_lemmas.specs.Statements.{Meets}
use Rattle.mapf_cases.specs.contracts.rule.RuleOrd.TheImpl as rule_order
use Rattle.mapf_cases.specs.declared.rule.Rule.{Rule}
use Rattle.mapf_cases.specs.declared.rule.Rule.TheVariants.{NotAt, NotMove, Clear, Most, Least}
use Rattle.mapf_cases.specs.declared.rule_index.RuleIndex.{RuleIndex}

-- the constraint that the rule is
abbrev pub constraint_of : Rule → PathConstraint
constraint_of (NotAt cell tick) = not_at cell tick
constraint_of (NotMove from to tick) = not_move from to tick
constraint_of (Clear cell tick) = clear cell tick
constraint_of (Most ticks) = most ticks
constraint_of (Least ticks) = least ticks

-- the first rule of its kind that can serve for this one
abbrev pub first_of_kind : Rule → Rule
first_of_kind (NotAt cell tick) = NotAt cell tick
first_of_kind (NotMove from to tick) = NotMove from to tick
first_of_kind (Clear cell tick) = Clear cell 0
first_of_kind (Most ticks) = Most 0
first_of_kind (Least ticks) = Least ticks

-- the first rule of another kind that can serve for this one, if there is such a kind
abbrev pub first_of_other_kind : Rule → Option Rule
first_of_other_kind (NotAt cell tick) = Some (Clear cell 0)
first_of_other_kind other = None

-- by agent, and then by kind, cell and tick
abbrev pub key_cmp : ℕ × Rule → ℕ × Rule → Ordering
key_cmp a b = ordering_then (nat_cmp a.0 b.0) ((rule_order.ghosts).cmp a.1 b.1)

-- the rule comes after the first one, and all of the agent that come between them serve for the needed one
pub record ServesFrom (agent : ℕ) (first needed rule : Rule) : Type 0 where
  pub after : IsLeBy key_cmp (agent, first) (agent, rule)
  pub between : (key : ℕ × Rule) → IsLeBy key_cmp (agent, first) key → IsLeBy key_cmp key (agent, rule) →
      (key.0 ≡ agent) × Meets (constraint_of key.1) (constraint_of needed)

-- the index has the constraints of each agent
abbrev pub Indexes : (ℕ → List PathConstraint) → RuleIndex → Type 0
Indexes constraints index =
    (agent : ℕ) (rule : Rule) →
    IsTrue (contains key_cmp index.rules (agent, rule)) ↔ Contains (constraints agent) (constraint_of rule)

-- it says whether these constraints lacked the one that was added
abbrev pub CanRemove : (ℕ → List PathConstraint) → ℕ → PathConstraint → Bool → Type 0
CanRemove constraints agent constraint is_new =
    MatchBool is_new (Contains (constraints agent) constraint → ⊥) (Contains (constraints agent) constraint)
