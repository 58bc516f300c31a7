-- A lemma of two agents whose entries are sound shows the statement with its bound.
use Rattle.std.proofs.Common.{◌∙◌, refl, List, Option, Some, Result, Ok, Err, OnErr}
use Rattle.std.proofs.lemmas.Option.{same_Some, slice_get_within, get_or_from_slice_get}
use Rattle.mapf_lemmas.specs.Lemmas.{TwoShow}
use Rattle.mapf_lemmas.specs.Prices.{PriceList}
use Rattle.mapf_lemmas.specs.Statements.{Statement}
use Rattle.mapf_lemmas.specs.declared.constraint.AgentConstraint.{AgentConstraint}
use Rattle.mapf_lemmas.proofs.CertificateLemmas.{same_list_of}
use Rattle.mapf_model.specs.Plan.{Instance}
use Rattle.mapf_single_labels.proofs.EntryLemmas.{IsSoundAmong-at}
use Rattle.mapf_joint_labels.specs.declared.two.TwoFault.{TwoFault}
use Rattle.mapf_joint_labels.specs.declared.two.TwoFault.TheVariants.{First, Second, Joint}
use Rattle.mapf_joint_labels.specs.Two.{IsTwoFault, ShowsNothing}
use Rattle.mapf_joint_labels.proofs.OrderLemmas.{joint_some}
use Rattle.std.proofs.Common.{◌≡◌, ℕ, ◌+◌, ◌≤◌, Some, All, slice_index_or, sym, ap, subst, arith}
use Rattle.mapf_lemmas.specs.declared.joint.JointEntry.{JointEntry}
use Rattle.mapf_lemmas.specs.declared.joint.JointState.{JointState}
use Rattle.mapf_lemmas.specs.declared.joint.JointState.TheVariants.{Both}
use Rattle.mapf_lemmas.specs.JointLabels.{PairTask, AreFreeCells, AreSoundTogether, IsJointLabel, IsSoundJointEntry, joint_entries_of}
use Rattle.mapf_lemmas.specs.Lemmas.{pair_of}
use Rattle.mapf_lemmas.specs.SingleLabels.{Task, AreSound}
use Rattle.mapf_model.specs.declared.label.Label.{Label}
use Rattle.mapf_model.specs.declared.label.Label.TheVariants.{Ticks, Never}
use Rattle.mapf_model.specs.Grid.{GridMap}
use Rattle.mapf_model.specs.Labels.{entries_of}
use Rattle.mapf_single_labels.specs.Ranges.{IsLabelUpTo, greatest_entry_label}
use Rattle.mapf_joint_labels.specs.declared.pair.Pair.{Pair}
use Rattle.mapf_joint_labels.specs.Pairs.{IsPair, IsSoundIn, lists_of, task_of}
use Rattle.mapf_joint_labels.specs.Two.{IsPairOf, IsStartBound, ShowsBound, statement_of_two}
use Rattle.mapf_joint_labels.proofs.OrderLemmas.{joint_listed}
use Rattle.mapf_joint_labels.proofs.PairLemmas.{second_is}

module _ (pair : Pair) (own : IsPair pair) where
  -- a listed label is in range
  pub listed_small : (state : JointState) (tick : ℕ) (label : Label) → joint_entries_of pair.joint.now state tick ≡ Some label → IsLabelUpTo greatest_entry_label label
  listed_small state tick label found =
      let (k, within, is) = joint_listed pair.joint.now state tick label found in
      subst (λ (e : JointEntry). IsLabelUpTo greatest_entry_label e.label) is (own.labels k (record { state = state; tick = tick; label = label }) within)

  joint_sound : All (IsSoundIn pair) pair.joint.now → (state : JointState) (tick : ℕ) (label : Label) → joint_entries_of pair.joint.now state tick ≡ Some label → IsSoundJointEntry (task_of pair) (lists_of pair) state tick label
  joint_sound good state tick label found =
      let (k, within, is) = joint_listed pair.joint.now state tick label found in
      (subst (IsSoundIn pair) is (good k (record { state = state; tick = tick; label = label }) within)).1

  sound_together : AreSound pair.first_task.now (entries_of pair.first.now) → AreSound pair.second_task.now (entries_of pair.second.now) → All (IsSoundIn pair) pair.joint.now → AreSoundTogether (task_of pair) (lists_of pair)
  sound_together first second good = record {
    first = first;
    second = subst (λ (t : Task). AreSound t (entries_of pair.second.now)) (sym (second_is pair own)) second;
    joint = joint_sound good;
  }

  pub shows_bound : (bound : Label) → IsStartBound pair bound → AreSound pair.first_task.now (entries_of pair.first.now) → AreSound pair.second_task.now (entries_of pair.second.now) → All (IsSoundIn pair) pair.joint.now → ShowsBound pair bound
  shows_bound bound (label, is_label, bound_is) first second good problem lists i j constraints number of =
      let list = pair.first_task.now.list in
      let a = pair.first_task.now.agent in
      let b = pair.second_task.now.agent in
      let same : task_of pair ≡ pair_of problem list i j a b constraints = λ n. record {
        grid = of.grid n;
        list = list;
        first = a;
        second = b;
        first_constraints = of.first_constraints n;
        second_constraints = of.second_constraints n;
      } in (
        λ k d within. subst (λ (g : GridMap). AreFreeCells g (slice_index_or pair.joint.now k d).state) of.grid (good k d within).0,
        record {
          list = list;
          a = a;
          b = b;
          label = label;
          differ = of.differ;
          is_list = of.is_list;
          is_first = of.is_first;
          is_second = of.is_second;
          on_grid = of.on_grid;
          sound = subst (λ (t : PairTask). AreSoundTogether t (lists_of pair)) same (sound_together first second good);
          is_label = subst (λ (t : PairTask). IsJointLabel t (lists_of pair) (Both a.start b.start) 0 label) same is_label;
          is_statement = ap (λ (l : Label). statement_of_two i j constraints number l) bound_is;
        },
      )

  -- what a lemma that has a statement says of the entries
  sound_of : (problem : Instance) (lists : List PriceList) (i j : ℕ) (constraints : List AgentConstraint) (number : Option ℕ) (statement : Statement) → IsPairOf problem lists i j constraints number pair →
      TwoShow problem lists i j constraints number (lists_of pair) statement → AreSoundTogether (task_of pair) (lists_of pair)
  sound_of problem lists i j constraints number statement of show =
      let list_same : show.list ≡ pair.first_task.now.list = same_list_of lists number show.list pair.first_task.now.list show.is_list of.is_list in
      let a_same : show.a ≡ pair.first_task.now.agent = same_Some show.a pair.first_task.now.agent (sym show.is_first ∙ of.is_first) in
      let b_same : show.b ≡ pair.second_task.now.agent = same_Some show.b pair.second_task.now.agent (sym show.is_second ∙ of.is_second) in
      let same : pair_of problem show.list i j show.a show.b constraints ≡ task_of pair = λ n. record {
        grid = (sym of.grid) n;
        list = list_same n;
        first = a_same n;
        second = b_same n;
        first_constraints = (sym of.first_constraints) n;
        second_constraints = (sym of.second_constraints) n;
      } in
      subst (λ (t : PairTask). AreSoundTogether t (lists_of pair)) same show.sound

  pub shows_nothing : (fault : TwoFault) → IsTwoFault pair fault → ShowsNothing pair
  shows_nothing (First place) bad problem lists i j constraints number statement of frees show =
      let sound = sound_of problem lists i j constraints number statement of show in
      bad.unsound (IsSoundAmong-at pair.first_task.now pair.first.now own.rising_first place bad.entry bad.is_entry sound.first)
  shows_nothing (Second place) (firsts, bad) problem lists i j constraints number statement of frees show =
      let sound = sound_of problem lists i j constraints number statement of show in
      let second = subst (λ (t : Task). AreSound t (entries_of pair.second.now)) (second_is pair own) sound.second in
      bad.unsound (IsSoundAmong-at pair.second_task.now pair.second.now own.rising_second place bad.entry bad.is_entry second)
  shows_nothing (Joint place) (firsts, seconds, bad) problem lists i j constraints number statement of frees show =
      let sound = sound_of problem lists i j constraints number statement of show in
      let entries = pair.joint.now in
      let entry = bad.entry in
      let within = slice_get_within entries place entry bad.is_entry in
      let at : (d : JointEntry) → slice_index_or entries place d ≡ entry = λ d. get_or_from_slice_get entries place entry d bad.is_entry in
      let free = subst (λ (g : GridMap). AreFreeCells g entry.state) (sym of.grid) (subst (λ (e : JointEntry). AreFreeCells problem.grid e.state) (at entry) (frees place entry within)) in
      bad.unsound (free, sound.joint entry.state entry.tick entry.label (joint_some entries entry.state entry.tick place entry own.rising_joint within at (refl, refl)))

pub on_err : {E X : Type 0} (result : Result X E) (P : Type 0) → P → OnErr result P
on_err (Ok x) P p = tt
on_err (Err e) P p = p
