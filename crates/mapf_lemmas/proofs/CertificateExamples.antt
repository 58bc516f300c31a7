-- Certificates of small problems.
use Rattle.std.proofs.Common.{◌≡◌, ◌≢◌, ◌⊎◌, ℕ, zero, suc, ◌≤◌, List, [], ◌∷◌, Some, None, All, AllPairs, Contains, slice_get, slice_index_or, refl, sym, ◌∙◌, ap, subst, inl, inr, arith}
use Rattle.std.proofs.lemmas.Bool.Decides.{nat_tests}
use Rattle.std.proofs.lemmas.List.Elements.{Contains-get_or}
use Rattle.mapf_lemmas.specs.declared.joint.JointCell.{JointCell}
use Rattle.mapf_lemmas.specs.declared.joint.JointEntry.{JointEntry}
use Rattle.mapf_lemmas.specs.declared.leaf.Use.{Use}
use Rattle.mapf_lemmas.specs.declared.price.Price.TheVariants.{Cell}
use Rattle.mapf_lemmas.specs.Examples.{at_starts, crossing_lemma, one_group, ALemmaOfTwoShowsFive, middle_list, priced_lemma, two_singles, PricesShowFive, corridor_lemma, JointCellsShowImpossibility, crossing_statement}
use Rattle.mapf_lemmas.specs.Groups.{Group, Scope, LeafLabels, IsNamed, IsFloor, load, IsGroup, IsProperLeaf, LeafShows}
use Rattle.mapf_lemmas.specs.JointCells.{IsClosed}
use Rattle.mapf_lemmas.specs.JointLabels.{AreApart, AreFreeCells}
use Rattle.mapf_lemmas.specs.Lemmas.{scope_of, LemmaShows}
use Rattle.mapf_lemmas.specs.Prices.{no_list, IsPriceOn}
use Rattle.mapf_lemmas.specs.Statements.{Statement}
use Rattle.mapf_lemmas.proofs.CrossingLemmas.{only_member, distance_3_5, distance_1_7, after_step_of_3, after_step_of_1, priced_sound, crossing_sound}
use Rattle.mapf_lemmas.proofs.SmallLists.{all_of_one, all_of_two, one_shows, two_show}
use Rattle.mapf_lemmas.proofs.DistanceLemmas.{distance_by_walk}
use Rattle.mapf_model.specs.declared.label.Label.{Label}
use Rattle.mapf_model.specs.declared.label.Label.TheVariants.{Ticks, Never}
use Rattle.mapf_model.specs.declared.problem.Agent.{Agent}
use Rattle.mapf_model.specs.Distance.{IsDistance}
use Rattle.mapf_model.specs.Examples.{open_square, two_cells, crossing, neighbours, agent}
use Rattle.mapf_model.specs.Grid.{GridMap, IsFree}
use Rattle.mapf_model.specs.Plan.{Instance}
use Rattle.mapf_model.proofs.ContainsLemmas.{Contains-none, Contains-cons_new}
use Rattle.mapf_model.proofs.StepLemmas.{step_end}

-- what a lemma of both agents says
abbrev pub pair_statement : Label → Statement
pair_statement bound = record { agents = 0 ∷ 1 ∷ []; constraints = []; list_number = None; bound = bound }

-- a leaf that uses one such lemma in a group
module _
    (grid : GridMap) (a b : Agent) (far : ℕ) (a_far : IsDistance grid a.goal a.start far) (b_far : IsDistance grid b.goal b.start far)
    (bound : Label) (known : List Statement) (n : ℕ) (named : slice_get known n ≡ Some (pair_statement bound))
  where
    abbrev pub pair_problem : Instance
    pair_problem = record { grid = grid; agents = a ∷ b ∷ [] }

    abbrev pub pair_scope : Scope
    pair_scope = scope_of pair_problem [] known (0 ∷ 1 ∷ [])

    abbrev pub pair_labels : LeafLabels
    pair_labels = record { floor = λ agent. Ticks far; agents = λ lemma. 0 ∷ 1 ∷ []; counted = λ lemma. bound }

    abbrev pub the_use : Use
    the_use = record { lemma = n; weight = 1 }

    abbrev pub the_group : Group
    the_group = record { divisor = 1; uses = the_use ∷ [] }

    floor_is : (agent : ℕ) → Contains (0 ∷ 1 ∷ []) agent → IsFloor pair_scope (one_group n) 1 pair_labels agent
    floor_is agent (zero, within, is) = subst (IsFloor pair_scope (one_group n) 1 pair_labels) is
        (inr (λ lemma held. absurd (Contains-none lemma held), a, Ticks far, refl, a_far, ap Ticks (omega arith)))
    floor_is agent (suc zero, within, is) = subst (IsFloor pair_scope (one_group n) 1 pair_labels) is
        (inr (λ lemma held. absurd (Contains-none lemma held), b, Ticks far, refl, b_far, ap Ticks (omega arith)))
    floor_is agent (suc (suc k), within, is) = absurd (omega arith)

    balanced : (agent : ℕ) → load pair_labels the_group agent ≤ 1
    balanced agent = grind (arith, nat_tests)

    use_is : IsNamed pair_scope (λ agent. []) (one_group n) 1 pair_labels n
    use_is = record {
      statement = pair_statement bound;
      named = named;
      usable = record {
        inside = λ k d within. Contains-get_or (0 ∷ 1 ∷ []) k d within;
        met = λ agent needed held. absurd (Contains-none needed held);
      };
      same_agents = refl;
      counts = inl (refl, refl);
    }

    pub group_is_proper : IsProperLeaf pair_scope (λ agent. []) (one_group n) no_list pair_labels
    group_is_proper = record {
      is_list = refl;
      positive = omega arith;
      alone = λ k d within. absurd (omega arith);
      different = λ i j d lt within. absurd (omega arith);
      each = λ k d within. absurd (omega arith);
      floors = floor_is;
      each_group = all_of_one (IsGroup pair_scope (λ agent. []) (one_group n) 1 pair_labels) the_group (record {
        positive = omega arith;
        balanced = balanced;
        weights = all_of_one (λ used. 1 ≤ used.weight) the_use (omega arith);
        each = all_of_one (λ used. IsNamed pair_scope (λ agent. []) (one_group n) 1 pair_labels used.lemma) the_use use_is;
      });
      apart = λ i j d lt within. absurd (omega arith);
    }

-- a leaf that uses the lemma that two crossing agents cost 5
pub crossing_leaf : (known : List Statement) (n : ℕ) → slice_get known n ≡ Some crossing_statement → LeafShows (scope_of crossing [] known (0 ∷ 1 ∷ [])) (λ agent. []) (one_group n) (Ticks 5)
crossing_leaf known n named = (
  no_list,
  pair_labels open_square (agent 3 5) (agent 1 7) 2 distance_3_5 distance_1_7 (Ticks 5) known n named,
  group_is_proper open_square (agent 3 5) (agent 1 7) 2 distance_3_5 distance_1_7 (Ticks 5) known n named,
  inr (omega arith),
)

crossing_shows : LemmaShows crossing [] [] crossing_lemma crossing_statement
crossing_shows = (
  all_of_one (λ (one : JointEntry). AreFreeCells open_square one.state) (at_starts 5) (refl, refl),
  record {
    list = no_list;
    a = agent 3 5;
    b = agent 1 7;
    label = Ticks 5;
    differ = λ same. absurd (omega arith);
    is_list = refl;
    is_first = refl;
    is_second = refl;
    on_grid = λ k d within. absurd (omega arith);
    sound = crossing_sound;
    is_label = refl;
    is_statement = refl;
  },
)

pub a_lemma_of_two_shows_five : ALemmaOfTwoShowsFive
a_lemma_of_two_shows_five = record {
  proper_lists = λ k d within. absurd (omega arith);
  statements = crossing_statement ∷ [];
  each = one_shows crossing [] crossing_lemma crossing_statement crossing_shows;
  shows = crossing_leaf (crossing_statement ∷ []) 0 refl;
}

-- the statement of one agent's lemma with the price of the middle
abbrev priced_statement : ℕ → Statement
priced_statement agent = record { agents = agent ∷ []; constraints = []; list_number = Some 0; bound = Ticks 3 }

abbrev priced_scope : Scope
priced_scope = scope_of crossing (middle_list ∷ []) (priced_statement 0 ∷ priced_statement 1 ∷ []) (0 ∷ 1 ∷ [])

abbrev priced_labels : LeafLabels
priced_labels = record { floor = λ agent. Ticks 3; agents = λ lemma. lemma ∷ []; counted = λ lemma. Ticks 3 }

single_is : (lemma : ℕ) → slice_get (priced_statement 0 ∷ priced_statement 1 ∷ []) lemma ≡ Some (priced_statement lemma) → Contains (0 ∷ 1 ∷ []) lemma → IsNamed priced_scope (λ agent. []) two_singles 1 priced_labels lemma
single_is lemma named held = record {
  statement = priced_statement lemma;
  named = named;
  usable = record {
    inside = all_of_one (Contains (0 ∷ 1 ∷ [])) lemma held;
    met = λ agent needed none. absurd (Contains-none needed none);
  };
  same_agents = refl;
  counts = inl (refl, refl);
}

lists_differ : (a b : ℕ) → a ≢ b → a ∷ [] ≢ b ∷ []
lists_differ a b differ same = let equal : a ≡ b = cc in differ equal

different_singles : AllPairs {X = ℕ} (λ one other. one ∷ [] ≢ other ∷ []) (0 ∷ 1 ∷ [])
different_singles zero zero d before within = absurd (omega arith)
different_singles zero (suc zero) d before within = lists_differ 0 1 (λ same. absurd (omega arith))
different_singles zero (suc (suc j)) d before within = absurd (omega arith)
different_singles (suc i) zero d before within = absurd (omega arith)
different_singles (suc i) (suc j) d before within = absurd (omega arith)

singles_are_proper : IsProperLeaf priced_scope (λ agent. []) two_singles middle_list priced_labels
singles_are_proper = record {
  is_list = refl;
  positive = omega arith;
  alone = λ k d within. (slice_index_or (0 ∷ 1 ∷ []) k d, refl);
  different = different_singles;
  each = all_of_two (IsNamed priced_scope (λ agent. []) two_singles 1 priced_labels) 0 1
      (single_is 0 refl (0, omega arith, refl)) (single_is 1 refl (1, omega arith, refl));
  floors = λ agent held. inl (agent, held, refl, refl);
  each_group = λ k d within. absurd (omega arith);
  apart = λ i j d lt within. absurd (omega arith);
}

pub prices_show_five : PricesShowFive
prices_show_five = record {
  proper_lists = all_of_one (λ list. All (IsPriceOn open_square) list.prices) middle_list (all_of_one (IsPriceOn open_square) (Cell 4 1 1) refl);
  statements = priced_statement 0 ∷ priced_statement 1 ∷ [];
  each = two_show crossing (middle_list ∷ []) (priced_lemma 0 3) (priced_lemma 1 1) (priced_statement 0) (priced_statement 1)
      (record {
        list = middle_list;
        a = agent 3 5;
        label = Ticks 3;
        is_list = refl;
        is_agent = refl;
        on_grid = λ k d within. absurd (omega arith);
        sound = priced_sound (agent 3 5) (λ same. absurd (omega arith)) distance_3_5 after_step_of_3;
        is_label = refl;
        is_statement = refl;
      })
      (record {
        list = middle_list;
        a = agent 1 7;
        label = Ticks 3;
        is_list = refl;
        is_agent = refl;
        on_grid = λ k d within. absurd (omega arith);
        sound = priced_sound (agent 1 7) (λ same. absurd (omega arith)) distance_1_7 after_step_of_1;
        is_label = refl;
        is_statement = refl;
      });
  shows = (middle_list, priced_labels, singles_are_proper, inr (omega arith));
}

-- the corridor
corridor_cell : (cell : ℕ) → IsFree two_cells cell → (cell ≡ 0) ⊎ (cell ≡ 1)
corridor_cell zero free = inl refl
corridor_cell (suc zero) free = inr refl
corridor_cell (suc (suc k)) free = absurd cc

abbrev at_their_starts : JointCell
at_their_starts = record { first = 0; second = 1 }

never_leave : (u v w x : ℕ) → 0 ≡ u → 1 ≡ v → AreApart u v w x → (w ≡ 0) ⊎ (w ≡ 1) → (x ≡ 0) ⊎ (x ≡ 1) → Contains (at_their_starts ∷ []) (record { first = w; second = x })
never_leave u v w x here there apart (inl w_is) (inl x_is) = absurd (apart.0 (w_is ∙ sym x_is))
never_leave u v w x here there apart (inl w_is) (inr x_is) = rw (w_is, x_is) (Contains-cons_new at_their_starts [])
never_leave u v w x here there apart (inr w_is) (inl x_is) = absurd (apart.1 (w_is ∙ there, x_is ∙ here))
never_leave u v w x here there apart (inr w_is) (inr x_is) = absurd (apart.0 (w_is ∙ sym x_is))

corridor_closed : IsClosed two_cells (agent 0 1) (agent 1 0) (at_their_starts ∷ [])
corridor_closed = record {
  free = λ cell held. subst (λ one. IsFree two_cells one.first × IsFree two_cells one.second) (only_member at_their_starts cell held) (refl, refl);
  different = λ cell held. subst (λ one. one.first ≢ one.second) (only_member at_their_starts cell held) (λ same. absurd (omega arith));
  start = Contains-cons_new at_their_starts [];
  goal = λ held. let same : 0 ≡ 1 = ap (λ one. one.first) (only_member at_their_starts (record { first = 1; second = 0 }) held) in omega arith;
  onward = λ u v w x held first second apart.
      let same = only_member at_their_starts (record { first = u; second = v }) held in
      never_leave u v w x (ap (λ one. one.first) same) (ap (λ one. one.second) same) apart
      (corridor_cell w (step_end two_cells u w first)) (corridor_cell x (step_end two_cells v x second));
}

distance_0_1 : IsDistance two_cells 1 0 1
distance_0_1 = distance_by_walk two_cells 0 1 1 (1, inr (record { from_free = refl; to_free = refl; apart = inl (refl, inr refl) }), (refl, refl)) refl

distance_1_0 : IsDistance two_cells 0 1 1
distance_1_0 = distance_by_walk two_cells 1 0 1 (0, inr (record { from_free = refl; to_free = refl; apart = inl (refl, inl refl) }), (refl, refl)) refl

corridor_shows : LemmaShows neighbours [] [] corridor_lemma (pair_statement Never)
corridor_shows = record {
  a = agent 0 1;
  b = agent 1 0;
  differ = λ same. absurd (omega arith);
  is_first = refl;
  is_second = refl;
  closed = corridor_closed;
  is_statement = refl;
}

corridor_leaf : (known : List Statement) (n : ℕ) → slice_get known n ≡ Some (pair_statement Never) → LeafShows (scope_of neighbours [] known (0 ∷ 1 ∷ [])) (λ agent. []) (one_group n) Never
corridor_leaf known n named = (
  no_list,
  pair_labels two_cells (agent 0 1) (agent 1 0) 1 distance_0_1 distance_1_0 Never known n named,
  group_is_proper two_cells (agent 0 1) (agent 1 0) 1 distance_0_1 distance_1_0 Never known n named,
  inl (inr (
    the_group two_cells (agent 0 1) (agent 1 0) 1 distance_0_1 distance_1_0 Never known n named,
    the_use two_cells (agent 0 1) (agent 1 0) 1 distance_0_1 distance_1_0 Never known n named,
    (0, omega arith, refl),
    (0, omega arith, refl),
    refl,
  )),
)

pub joint_cells_show_impossibility : JointCellsShowImpossibility
joint_cells_show_impossibility = record {
  proper_lists = λ k d within. absurd (omega arith);
  statements = pair_statement Never ∷ [];
  each = one_shows neighbours [] corridor_lemma (pair_statement Never) corridor_shows;
  shows = corridor_leaf (pair_statement Never ∷ []) 0 refl;
}
