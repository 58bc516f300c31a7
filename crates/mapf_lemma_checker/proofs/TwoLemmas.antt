-- What a lemma of two agents by labels shows.
use Rattle.std.proofs.Common.{◌≡◌, ◌≢◌, ℕ, ◌+◌, ◌*◌, ◌<◌, ◌≤◌, List, Option, Some, None, All, length, refl, sym, ◌∙◌, ap, subst, arith}
use Rattle.mapf_cases.specs.Ranges.{greatest_bound}
use Rattle.mapf_joint_labels.specs.declared.pair.Pair.{Pair}
use Rattle.mapf_joint_labels.specs.declared.pair.PairMarks.{PairMarks}
use Rattle.mapf_joint_labels.specs.Pairs.{IsPair, HaveRoom, lists_of}
use Rattle.mapf_joint_labels.specs.Two.{IsPairOf, ShowsBound, ShowsNothing}
use Rattle.mapf_lemmas.specs.declared.constraint.AgentConstraint.{AgentConstraint}
use Rattle.mapf_lemmas.specs.declared.constraint.PathConstraint.{PathConstraint}
use Rattle.mapf_lemmas.specs.declared.joint.JointEntry.{JointEntry}
use Rattle.mapf_lemmas.specs.JointLabels.{AreFreeCells, PairEntries, joint_entries_of}
use Rattle.mapf_lemmas.specs.Lemmas.{AreConstraintsOn, TwoShow}
use Rattle.mapf_lemmas.specs.Prices.{PriceList, cell_price, no_list}
use Rattle.mapf_lemmas.specs.Statements.{IsListOf, constraints_of}
use Rattle.mapf_lemma_checker.specs.LemmaParts.{AreCellPricesSmall, AreSizesOf, HasStatement, HasNoStatement, IsAgentTask, IsSmallBound, two_of, two_statement}
use Rattle.mapf_lemma_checker.proofs.OneLemmas.{no_price, ticks_up_to}
use Rattle.mapf_lemma_checker.proofs.PartLists.{entries_in_range, entries_on_grid, entries_rise, joint_labels, joint_rise, joint_ticks, same_cells}
use Rattle.mapf_lemma_texts.specs.declared.sizes.LineSizes.{LineSizes}
use Rattle.mapf_lemma_texts.specs.Parts.{AreEntries, AreJointEntries}
use Rattle.mapf_lemma_texts.specs.PartValues.{TwoValue}
use Rattle.mapf_model.specs.declared.label.Entry.{Entry}
use Rattle.mapf_model.specs.declared.label.Label.{Label}
use Rattle.mapf_model.specs.Grid.{GridMap}
use Rattle.mapf_model.specs.Labels.{entries_of}
use Rattle.mapf_model.specs.Plan.{Instance}
use Rattle.mapf_single_labels.specs.Ranges.{IsLabelUpTo}

-- the pair is judged for this lemma
pub record IsPairFor (problem : Instance) (prices : PriceList) (v : TwoValue) (pair : Pair) : Type 0 where
  pub first : IsAgentTask problem prices (constraints_of v.constraints v.i) v.i pair.first_task.now
  pub second : IsAgentTask problem prices (constraints_of v.constraints v.j) v.j pair.second_task.now
  pub first_entries : pair.first.now ≡ v.first
  pub second_entries : pair.second.now ≡ v.second
  pub joint_entries : pair.joint.now ≡ v.joint

-- the pair that is made for the lemma, of which the parts were looked up
pub pair_for : (problem : Instance) (prices : PriceList) (v parts : TwoValue) (pair : Pair) (own other : List PathConstraint)
    (listed again : List AgentConstraint) → parts ≡ v → IsAgentTask problem prices own v.i pair.first_task.now →
    IsAgentTask problem prices other v.j pair.second_task.now → own ≡ constraints_of listed parts.i →
    other ≡ constraints_of again parts.j → listed ≡ parts.constraints → again ≡ parts.constraints →
    pair.first.now ≡ parts.first → pair.second.now ≡ parts.second → pair.joint.now ≡ parts.joint →
    IsPairFor problem prices v pair
pair_for problem prices v parts pair own other listed again is one two of_first of_second all all_again first second joint = record {
  first = subst (λ (cs : List PathConstraint). IsAgentTask problem prices cs v.i pair.first_task.now)
      (of_first ∙ ap (λ (cs : List AgentConstraint). constraints_of cs parts.i) all ∙ ap (λ (w : TwoValue). constraints_of w.constraints w.i) is) one;
  second = subst (λ (cs : List PathConstraint). IsAgentTask problem prices cs v.j pair.second_task.now)
      (of_second ∙ ap (λ (cs : List AgentConstraint). constraints_of cs parts.j) all_again ∙ ap (λ (w : TwoValue). constraints_of w.constraints w.j) is) two;
  first_entries = first ∙ ap (λ (w : TwoValue). w.first) is;
  second_entries = second ∙ ap (λ (w : TwoValue). w.second) is;
  joint_entries = joint ∙ ap (λ (w : TwoValue). w.joint) is;
}

-- the bound is small: with a list by the prices and the labels of both starts, else by the labels alone
pub two_small : (number : Option ℕ) (list : PriceList) (first second : ℕ) (bound : Label) →
    (number ≡ None → list ≡ no_list) → AreCellPricesSmall list →
    IsLabelUpTo (cell_price list.prices first 0 + cell_price list.prices second 0 + 8589934590000) bound →
    (list.unit ≡ 1 → IsLabelUpTo (cell_price list.prices first 0 + cell_price list.prices second 0 + 19999999998) bound) →
    IsSmallBound number bound
two_small None list first second bound plain cheap small little =
    let is : list ≡ no_list = plain refl in
    let one = no_price list first 0 is in
    let other = no_price list second 0 is in
    ticks_up_to bound (cell_price list.prices first 0 + cell_price list.prices second 0 + 19999999998) (greatest_bound None)
    (little (ap (λ (l : PriceList). l.unit) is)) (omega (arith, one, other))
two_small (Some n) list first second bound plain cheap small little =
    let one = cheap first 0 in
    let other = cheap second 0 in
    ticks_up_to bound (cell_price list.prices first 0 + cell_price list.prices second 0 + 8589934590000) (greatest_bound (Some n)) small (omega (arith, one, other))

module _ (problem : Instance) (prices : PriceList) (v : TwoValue) where
  -- a lemma of one agent twice shows nothing
  pub two_same : v.i ≡ v.j → HasNoStatement problem prices (two_of v) v.list_number
  two_same same lists known statement is_list shows = shows.1.differ same

  -- constraints that aren't on the grid show nothing
  pub two_off_grid : (AreConstraintsOn problem.grid v.constraints → ⊥) → HasNoStatement problem prices (two_of v) v.list_number
  two_off_grid off lists known statement is_list shows = off shows.1.on_grid

  module _ (pair : Pair) (is : IsPairFor problem prices v pair) where
    -- the lists of the part are in order and in range
    pub is_pair : (sizes : LineSizes) → AreEntries sizes v.first → AreEntries sizes v.second → AreJointEntries sizes v.joint → IsPair pair
    is_pair sizes first second joint =
        let mine = subst (AreEntries sizes) (sym is.first_entries) first in
        let others = subst (AreEntries sizes) (sym is.second_entries) second in
        let both = subst (AreJointEntries sizes) (sym is.joint_entries) joint in
        record {
          grid = is.second.grid_is ∙ sym is.first.grid_is;
          list = is.second.list_is ∙ sym is.first.list_is;
          rising_first = entries_rise sizes pair.first.now mine;
          rising_second = entries_rise sizes pair.second.now others;
          rising_joint = joint_rise sizes pair.joint.now both;
          range_first = entries_in_range sizes pair.first.now mine;
          range_second = entries_in_range sizes pair.second.now others;
          ticks = joint_ticks sizes pair.joint.now both;
          labels = joint_labels sizes pair.joint.now both;
        }

    -- marks that were made for each cell of the grid are enough
    pub have_room : (sizes : LineSizes) → AreSizesOf problem sizes → AreEntries sizes v.first → AreEntries sizes v.second →
        (marks : PairMarks) (count : ℕ) → count ≡ problem.grid.width * problem.grid.height → count ≡ length problem.grid.free →
        count ≤ length marks.first.offsets → count ≤ length marks.second.offsets → count ≤ length marks.joint.runs → HaveRoom pair marks
    have_room sizes of_problem first second marks count cells free enough_first enough_second enough_joint =
        let all = same_cells problem sizes of_problem in
        let flags = ap (λ (g : GridMap). length g.free) is.first.grid_is in
        record {
          first = subst (All (λ (e : Entry). e.cell < length marks.first.offsets)) (sym is.first_entries)
              (entries_on_grid sizes v.first first (length marks.first.offsets) (omega (arith, all, cells, enough_first)));
          second = subst (All (λ (e : Entry). e.cell < length marks.second.offsets)) (sym is.second_entries)
              (entries_on_grid sizes v.second second (length marks.second.offsets) (omega (arith, all, cells, enough_second)));
          joint = omega (arith, flags, free, enough_joint);
        }

    entries_are : lists_of pair ≡ record { first = entries_of v.first; second = entries_of v.second; joint = joint_entries_of v.joint }
    entries_are = λ n. record {
      first = entries_of (is.first_entries n);
      second = entries_of (is.second_entries n);
      joint = joint_entries_of (is.joint_entries n);
    }

    pair_of : v.i ≢ v.j → AreConstraintsOn problem.grid v.constraints → (lists : List PriceList) → IsListOf lists v.list_number prices →
        IsPairOf problem lists v.i v.j v.constraints v.list_number pair
    pair_of differ on_grid lists is_list = record {
      differ = differ;
      grid = is.first.grid_is;
      is_list = subst (IsListOf lists v.list_number) (sym is.first.list_is) is_list;
      is_first = is.first.agent_is;
      is_second = is.second.agent_is;
      first_constraints = is.first.constraints_are;
      second_constraints = is.second.constraints_are;
      on_grid = on_grid;
    }

    -- sound labels show the statement
    pub two_has : (bound : Label) → ShowsBound pair bound → v.i ≢ v.j → AreConstraintsOn problem.grid v.constraints →
        HasStatement problem prices (two_of v) v.list_number (two_statement v bound)
    two_has bound shown differ on_grid lists known is_list =
        let (free, shows) = shown problem lists v.i v.j v.constraints v.list_number (pair_of differ on_grid lists is_list) in (
          subst (All (λ (e : JointEntry). AreFreeCells problem.grid e.state)) is.joint_entries free,
          subst (λ (entries : PairEntries). TwoShow problem lists v.i v.j v.constraints v.list_number entries (two_statement v bound)) entries_are shows,
        )

    -- others show none
    pub two_has_none : ShowsNothing pair → v.i ≢ v.j → AreConstraintsOn problem.grid v.constraints →
        HasNoStatement problem prices (two_of v) v.list_number
    two_has_none nothing differ on_grid lists known statement is_list shows =
        nothing problem lists v.i v.j v.constraints v.list_number statement (pair_of differ on_grid lists is_list)
        (subst (All (λ (e : JointEntry). AreFreeCells problem.grid e.state)) (sym is.joint_entries) shows.0)
        (subst (λ (entries : PairEntries). TwoShow problem lists v.i v.j v.constraints v.list_number entries statement) (sym entries_are) shows.1)
