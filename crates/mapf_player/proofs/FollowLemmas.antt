-- Requests that come byte by byte, and their answers line by line.
use Rattle.std.proofs.Common.{◌≡◌, ◌≢◌, ◌⊎◌, ℕ, zero, suc, ◌+◌, ◌<◌, ◌≤◌, Bool, true, false, List, [], ◌∷◌, ◌++◌, Option, Result, Ok, Err, codes, length, take, drop, get_or, slice_set, OnOk, IfErr, length-append, take-append-drop, refl, sym, ap, subst, ◌∙◌, inl, inr, ⊎_elim, arith, append_assoc, append-nil}
use Rattle.std.specs.Fmt.{decimal}
use Rattle.std.specs.Io.KnownBytes.{Appends, IsAtEnd}
use Rattle.std.proofs.lemmas.Bool.{cases_lt}
use Rattle.std.proofs.lemmas.Fmt.{length-decimal-le}
use Rattle.std.proofs.lemmas.List.{take_all, take_more, length-take-le}
use Rattle.std.specs.Result.{is_err}
use Rattle.mapf_fields.specs.Ends.{lacks_end}
use Rattle.mapf_fields.proofs.Plain.{lacks-append}
use Rattle.mapf_model.specs.Plan.{Instance, IsValid}
use Rattle.mapf_player.specs.declared.events.EventFault.{EventFault}
use Rattle.mapf_player.specs.declared.events.EventFault.TheVariants.{E1, E2, E3, E4, Memory}
use Rattle.mapf_player.specs.declared.follow_fault.FollowFault.{FollowFault}
use Rattle.mapf_player.specs.declared.follow_fault.FollowFault.TheVariants as ends
use Rattle.mapf_player.specs.declared.follower.Heard.{Heard}
use Rattle.mapf_player.specs.declared.follower.Heard.TheVariants as heard
use Rattle.mapf_player.specs.declared.reply.Reply.{Reply}
use Rattle.mapf_player.specs.declared.request.Request.{Request}
use Rattle.mapf_player.specs.declared.request.Request.TheVariants.{Agent, Status, End}
use Rattle.mapf_player.specs.declared.visit.Visit.{Visit}
use Rattle.mapf_player.specs.Cycles.{AreInCycles, cycle_line}
use Rattle.mapf_player.specs.Dispatching.{Progress, IsReply, AreReplies, IsReached, beginning}
use Rattle.mapf_player.specs.Replies.{reply_line}
use Rattle.mapf_player.specs.Following.{FailsSink, error_line, IsRead, Told, nothing, both, only, IsGiven, IsTold, AreTold, whole_lines, IsListening, IsStopped, IsOutcome, longest_request, start_room, Hearing, IsAtTitle, IsAtLine, IsHearing, HasHeard, IsTitleHeard, IsLineHeard, IsAlwaysSafe}
use Rattle.mapf_player.specs.Visits.{AreVisitsOfAll}
use Rattle.mapf_player.proofs.DispatchLemmas.{beginning_order, beginning_progress, cells_are_a_prefix, kept_by_replies, no_two_agents_meet, replies_join}

-- ---- the start of a line

pub start_more : (n : ℕ) (xs : List ℕ) (b : ℕ) → take n (take n xs ++ b ∷ []) ≡ take n (xs ++ b ∷ [])
start_more zero xs b = refl
start_more (suc n) [] b = refl
start_more (suc n) (x ∷ xs) b = ap (λ ys. x ∷ ys) (start_more n xs b)

set_at : (xs : List ℕ) (i v : ℕ) → i < length xs → take (suc i) (slice_set xs i v) ≡ take i xs ++ v ∷ []
set_at [] i v within = absurd (omega arith)
set_at (x ∷ xs) zero v within = refl
set_at (x ∷ xs) (suc i) v within = ap (λ ys. x ∷ ys) (set_at xs i v (omega arith))

-- one byte more is kept
pub start_pushed : (bytes now : List ℕ) (used byte : ℕ) → used < length bytes → used < start_room → take used bytes ≡ now → take (used + 1) (slice_set bytes used byte) ≡ take start_room (now ++ byte ∷ [])
start_pushed bytes now used byte within room is =
    let next : used + 1 ≡ suc used = omega arith in
    let size : length (now ++ byte ∷ []) ≤ start_room = omega (arith, length-append now (byte ∷ []), ap length is, length-take-le used bytes (omega arith)) in
    ap (λ n. take n (slice_set bytes used byte)) next ∙ set_at bytes used byte within ∙ ap (λ xs. xs ++ byte ∷ []) is ∙ sym (take_all start_room (now ++ byte ∷ []) size)

-- a short text that is the start of a line is the line
start_is : (line text : List ℕ) → length text < start_room → take start_room line ≡ text → line ≡ text
start_is line text short is = ⊎_elim
    (λ (long : start_room < length line). absurd (let size = length-take-le start_room line (omega arith) in let same = ap length is in omega arith))
    (λ (fits : length line ≤ start_room). sym (take_all start_room line fits) ∙ is)
    (cases_lt start_room (length line))

few_digits : (n : ℕ) → n < 200 → length (decimal n) ≤ 3
few_digits n low = length-decimal-le 3 n (omega arith) (omega arith) (omega arith)

-- what the start of a line says, the line says
pub read_whole_line : (count number : ℕ) (line : List ℕ) (request : Result Request EventFault) → count ≤ 200 → IsRead count number (take start_room line) request → IsRead count number line request
read_whole_line count number line (Ok (Agent agent)) few read =
    let low = read.1 in
    let digits = few_digits agent (omega arith) in
    (start_is line (decimal agent) (omega arith) read.0, read.1)
read_whole_line count number line (Ok Status) few read = start_is line (codes "status") (omega arith) read
read_whole_line count number line (Ok End) few read = start_is line (codes "end") (omega arith) read
read_whole_line count number line (Err fault) few read = ⊎_elim
    (λ (long : longest_request < length line). (
      λ is. let size = ap length is in omega arith,
      λ is. let size = ap length is in omega arith,
      ⊎_elim
          (λ (too_long : (longest_request < length (take start_room line)) × (fault ≡ E1 number)). inl (long, too_long.1))
          (λ other. absurd (let short = other.0 in let size = length-take-le start_room line (omega arith) in omega arith))
          read.2,
    ))
    (λ (fits : length line ≤ longest_request). subst (λ text. IsRead count number text (Err fault)) (take_all start_room line (omega arith)) read)
    (cases_lt longest_request (length line))

-- ---- what is told

both_nothing : (told : Told) → both told nothing ≡ told
both_nothing told = ap (λ (xs : List ℕ). record { agents = xs; replies = told.replies ++ []; text = told.text ++ [] }) (append-nil told.agents)
    ∙ ap (λ (xs : List Reply). record { agents = told.agents; replies = xs; text = told.text ++ [] }) (append-nil told.replies)
    ∙ ap (λ (xs : List ℕ). record { agents = told.agents; replies = told.replies; text = xs }) (append-nil told.text)

both_assoc : (a b c : Told) → both (both a b) c ≡ both a (both b c)
both_assoc a b c = ap (λ (xs : List ℕ). record { agents = xs; replies = (a.replies ++ b.replies) ++ c.replies; text = (a.text ++ b.text) ++ c.text }) (append_assoc a.agents b.agents c.agents)
    ∙ ap (λ (xs : List Reply). record { agents = a.agents ++ (b.agents ++ c.agents); replies = xs; text = (a.text ++ b.text) ++ c.text }) (append_assoc a.replies b.replies c.replies)
    ∙ ap (λ (xs : List ℕ). record { agents = a.agents ++ (b.agents ++ c.agents); replies = a.replies ++ (b.replies ++ c.replies); text = xs }) (append_assoc a.text b.text c.text)

-- one line more was answered
pub told_more : (width number : ℕ) (before between after : Progress) (lines : List (List ℕ)) (line : List ℕ) (told last : Told) → AreTold width number before lines told between → IsTold width (number + length lines) between line last after →
    AreTold width number before (lines ++ line ∷ []) (both told last) after
told_more width number before between after [] line told last are is =
    let here : number + 0 ≡ number = omega arith in
    let first : IsTold width number before line last after = subst (λ p. IsTold width number p line last after) (sym are.1) (subst (λ n. IsTold width n between line last after) here is) in
    (last, after, nothing, first, (refl, refl), ap (λ t. both t last) are.0 ∙ sym (both_nothing last))
told_more width number before between after (x ∷ lines) line told last (first, mid, rest, this, others, told_is) is =
    let next : number + length (x ∷ lines) ≡ (number + 1) + length lines = omega arith in
    let more = told_more width (number + 1) mid between after lines line rest last others (subst (λ n. IsTold width n between line last after) next is) in
    (first, mid, both rest last, this, more, ap (λ t. both t last) told_is ∙ both_assoc first rest last)

lines_more : (lines : List (List ℕ)) (line rest : List ℕ) → whole_lines (lines ++ line ∷ []) ++ rest ≡ whole_lines lines ++ (line ++ (10 ∷ rest))
lines_more [] line rest = append_assoc line (10 ∷ []) rest
lines_more (x ∷ lines) line rest = append_assoc x (10 ∷ whole_lines (lines ++ line ∷ [])) rest ∙ ap (λ bs. x ++ (10 ∷ bs)) (lines_more lines line rest) ∙ sym (append_assoc x (10 ∷ whole_lines lines) (line ++ (10 ∷ rest)))

-- more bytes of the rest
longer : (came rest more : List ℕ) (lines : List (List ℕ)) → came ≡ codes "mapf-events 1\n" ++ (whole_lines lines ++ rest) → came ++ more ≡ codes "mapf-events 1\n" ++ (whole_lines lines ++ (rest ++ more))
longer came rest more lines is =
    ap (λ bs. bs ++ more) is ∙ append_assoc (codes "mapf-events 1\n") (whole_lines lines ++ rest) more
    ∙ ap (λ bs. codes "mapf-events 1\n" ++ bs) (append_assoc (whole_lines lines) rest more)

no_end : (b : ℕ) → b ≢ 10 → lacks_end (b ∷ []) ≡ true
no_end b differ = grind (arith, differ)

-- ---- a byte is heard

silent_more : (written : List ℕ) → written ≡ [] → written ++ [] ≡ []
silent_more written is = append-nil written ∙ is

-- a byte of a line
pub hears_byte : (width : ℕ) (before : Progress) (came written : List ℕ) (old new : Hearing) (b : ℕ) → b ≢ 10 → IsHearing width before came written old → new.progress ≡ old.progress → new.line ≡ take start_room (old.line ++ b ∷ []) → new.number ≡ old.number →
    IsHearing width before (came ++ b ∷ []) (written ++ []) new
hears_byte width before came written old new b differ hearing progress line number = ⊎_elim
    (λ (title : IsAtTitle before came written old). inl (record {
      untitled = record { lacks = lacks-append came (b ∷ []) title.untitled.lacks (no_end b differ); silent = silent_more written title.untitled.silent };
      same = progress ∙ title.same;
      start = line ∙ ap (λ xs. take start_room (xs ++ b ∷ [])) title.start ∙ start_more start_room came b;
      number = number ∙ title.number;
    }))
    (λ (later : IsAtLine width before came written old).
    let now = later.listening in
    let so_far = now.so_far in
    inr (record {
      listening = record {
        lines = now.lines;
        rest = now.rest ++ b ∷ [];
        so_far = record {
          spelled = longer came now.rest (b ∷ []) now.lines so_far.spelled;
          told = so_far.told;
          answered = subst (AreTold width 2 before now.lines so_far.told) (sym progress) so_far.answered;
          wrote = append-nil written ∙ so_far.wrote;
        };
        lacks = lacks-append now.rest (b ∷ []) now.lacks (no_end b differ);
      };
      start = line ∙ ap (λ xs. take start_room (xs ++ b ∷ [])) later.start ∙ start_more start_room now.rest b;
      number = number ∙ later.number;
    }))
    hearing

-- the end of the title's line
pub hears_title : (width : ℕ) (before : Progress) (came written : List ℕ) (old new : Hearing) (ended : Result Heard FollowFault) → IsHearing width before came written old → old.number ≡ 1 → IsTitleHeard old new ended →
    HasHeard width before (came ++ 10 ∷ []) (written ++ []) new ended
hears_title width before came written old new ended hearing number told = ⊎_elim
    (λ (title : IsAtTitle before came written old). by ended told title)
    (λ (later : IsAtLine width before came written old). absurd (let is = later.number in omega arith))
    hearing
  where
    by : (ended : Result Heard FollowFault) → IsTitleHeard old new ended → IsAtTitle before came written old → HasHeard width before (came ++ 10 ∷ []) (written ++ []) new ended
    by (Ok heard.More) (is, new_is) title =
        let whole = start_is came (codes "mapf-events 1") (omega arith) (sym title.start ∙ is) in
        inr (record {
          listening = record {
            lines = [];
            rest = [];
            so_far = record {
              spelled = ap (λ xs. xs ++ 10 ∷ []) whole;
              told = nothing;
              answered = (refl, sym (ap (λ (h : Hearing). h.progress) new_is ∙ title.same));
              wrote = silent_more written title.untitled.silent;
            };
            lacks = refl;
          };
          start = ap (λ (h : Hearing). h.line) new_is;
          number = ap (λ (h : Hearing). h.number) new_is;
        })
    by (Ok heard.End) told title = absurd told
    by (Err fault) (other, fault_is) title =
        subst (λ f. HasHeard width before (came ++ 10 ∷ []) (written ++ []) new (Err f)) (sym fault_is) (
          refl,
          record { line = came; rest = []; cut = record { same = refl; whole = title.untitled.lacks }; other = λ is. other (title.start ∙ ap (take start_room) is) },
          silent_more written title.untitled.silent,
        )

-- the end of a later line
pub hears_line : (width : ℕ) (before : Progress) (came written : List ℕ) (old new : Hearing) (had has : Option (List ℕ)) (request : Result Request EventFault) (ended : Result Heard FollowFault) → IsHearing width before came written old → old.number ≢ 1 →
    length old.progress.numbers ≤ 200 → IsRead (length old.progress.numbers) old.number old.line request → IsLineHeard width old new had has request ended →
    (text : List ℕ) × Appends had has text × HasHeard width before (came ++ 10 ∷ []) (written ++ text) new ended
hears_line width before came written old new had has request ended hearing number few read told = ⊎_elim
    (λ (title : IsAtTitle before came written old). absurd (number title.number))
    (λ (later : IsAtLine width before came written old). by ended told later)
    hearing
  where
    read_so : (later : IsAtLine width before came written old) → IsRead (length old.progress.numbers) (2 + length later.listening.lines) later.listening.rest request
    read_so later = read_whole_line (length old.progress.numbers) (2 + length later.listening.lines) later.listening.rest request few
        (subst (λ n. IsRead (length old.progress.numbers) n (take start_room later.listening.rest) request) later.number (subst (λ text. IsRead (length old.progress.numbers) old.number text request) later.start read))

    is_told : (later : IsAtLine width before came written old) (told : Told) (after : Progress) → IsGiven width old.progress request told after → IsTold width (2 + length later.listening.lines) old.progress later.listening.rest told after
    is_told later told after given = record { whole = later.listening.lacks; request = request; read = read_so later; given = given }

    by : (ended : Result Heard FollowFault) → IsLineHeard width old new had has request ended → IsAtLine width before came written old → (text : List ℕ) × Appends had has text × HasHeard width before (came ++ 10 ∷ []) (written ++ text) new ended
    by (Ok heard.More) (told, after, given, wrote, new_is) later =
        let now = later.listening in
        let so_far = now.so_far in
        let more = told_more width 2 before old.progress after now.lines now.rest so_far.told told so_far.answered (is_told later told after given) in (
          told.text,
          wrote,
          inr (record {
            listening = record {
              lines = now.lines ++ now.rest ∷ [];
              rest = [];
              so_far = record {
                spelled = longer came now.rest (10 ∷ []) now.lines so_far.spelled ∙ ap (λ bs. codes "mapf-events 1\n" ++ bs) (sym (lines_more now.lines now.rest []));
                told = both so_far.told told;
                answered = subst (AreTold width 2 before (now.lines ++ now.rest ∷ []) (both so_far.told told)) (sym (ap (λ (h : Hearing). h.progress) new_is)) more;
                wrote = ap (λ bs. bs ++ told.text) so_far.wrote;
              };
              lacks = refl;
            };
            start = ap (λ (h : Hearing). h.line) new_is;
            number = let next = ap (λ (h : Hearing). h.number) new_is in let here = later.number in omega (arith, length-append now.lines (now.rest ∷ []));
          }),
        )
    by (Ok heard.End) (is_end, wrote) later =
        let now = later.listening in
        let so_far = now.so_far in
        let end : now.rest ≡ codes "end" = subst (λ r. IsRead (length old.progress.numbers) (2 + length now.lines) now.rest r) is_end (read_so later) in (
          [],
          wrote,
          record {
            lines = now.lines;
            after = old.progress;
            more = [];
            so_far = record {
              spelled = longer came now.rest (10 ∷ []) now.lines so_far.spelled ∙ ap (λ bs. codes "mapf-events 1\n" ++ (whole_lines now.lines ++ (bs ++ 10 ∷ []))) end;
              told = so_far.told;
              answered = so_far.answered;
              wrote = append-nil written ∙ so_far.wrote;
            };
          },
        )
    by (Err fault) (fault_is, told, after, given, wrote) later =
        let now = later.listening in
        let so_far = now.so_far in (
          wrote.prefix,
          wrote.wrote,
          subst (λ f. HasHeard width before (came ++ 10 ∷ []) (written ++ wrote.prefix) new (Err f)) (sym fault_is) (record {
            lines = now.lines;
            line = now.rest;
            more = [];
            between = old.progress;
            after = after;
            told = so_far.told;
            last = told;
            missing = wrote.rest;
            prefix = wrote.prefix;
            spelled = longer came now.rest (10 ∷ []) now.lines so_far.spelled;
            answered = so_far.answered;
            unfinished = is_told later told after given;
            part = wrote.same;
            wrote = ap (λ bs. bs ++ wrote.prefix) so_far.wrote;
          }),
        )

-- ---- what is answered

pub gives_agent : (width : ℕ) (before same after : Progress) (agent : ℕ) (reply : Reply) (request : Request) → request ≡ Agent agent → same ≡ before → IsReply same agent reply after →
    IsGiven width before (Ok request) (record { agents = agent ∷ []; replies = reply ∷ []; text = reply_line width agent reply }) after
gives_agent width before same after agent reply request is one replied =
    subst (λ r. IsGiven width before (Ok r) (record { agents = agent ∷ []; replies = reply ∷ []; text = reply_line width agent reply }) after) (sym is)
    (reply, subst (λ p. IsReply p agent reply after) one replied, refl)

pub gives_status : (width : ℕ) (before same : Progress) (agents : List ℕ) (request : Request) → request ≡ Status → same ≡ before → AreInCycles same agents → IsGiven width before (Ok request) (only (cycle_line agents)) before
gives_status width before same agents request is one are =
    subst (λ r. IsGiven width before (Ok r) (only (cycle_line agents)) before) (sym is) (refl, agents, subst (λ p. AreInCycles p agents) one are, refl)

pub gives_error : (width : ℕ) (before : Progress) (fault : EventFault) (request : Result Request EventFault) → request ≡ Err fault → IsGiven width before request (only (error_line fault)) before
gives_error width before fault request is = subst (λ r. IsGiven width before r (only (error_line fault)) before) (sym is) (refl, refl)

-- ---- the number of the line

pub title_few : (old new : Hearing) (ended : Result Heard FollowFault) → IsTitleHeard old new ended → ended ≡ Ok heard.More → new.number ≤ 2
title_few old new (Ok heard.More) told is = let two = ap (λ (h : Hearing). h.number) told.1 in omega arith
title_few old new (Ok heard.End) told is = absurd told
title_few old new (Err fault) told is = absurd cc

pub line_few : (width : ℕ) (old new : Hearing) (had has : Option (List ℕ)) (request : Result Request EventFault) (ended : Result Heard FollowFault) → IsLineHeard width old new had has request ended → ended ≡ Ok heard.More → new.number ≤ old.number + 1
line_few width old new had has request (Ok heard.More) told is = let next = ap (λ (h : Hearing). h.number) told.4 in omega arith
line_few width old new had has request (Ok heard.End) told is = absurd cc
line_few width old new had has request (Err fault) told is = absurd cc

-- the sink failed where an answer couldn't be written
pub title_works : (old new : Hearing) (ended : Result Heard FollowFault) (failed : Bool) → IsTitleHeard old new ended → failed ≡ false → FailsSink ended failed
title_works old new (Ok heard.More) failed told works = works
title_works old new (Ok heard.End) failed told works = absurd told
title_works old new (Err fault) failed told works = let P : FollowFault → Type 0 = λ f. FailsSink {T = Heard} (Err f) failed in subst P (sym told.1) works

pub line_works : (width : ℕ) (old new : Hearing) (had has : Option (List ℕ)) (request : Result Request EventFault) (ended : Result Heard FollowFault) (failed : Bool) → IsLineHeard width old new had has request ended → failed ≡ is_err ended → FailsSink ended failed
line_works width old new had has request (Ok heard) failed told works = works
line_works width old new had has request (Err fault) failed told works = let P : FollowFault → Type 0 = λ f. FailsSink {T = Heard} (Err f) failed in subst P (sym told.0) works

-- ---- bytes that come after the end

abbrev pub HasStopped : Result Heard FollowFault → Type 0
HasStopped (Ok heard.More) = ⊥
HasStopped (Ok heard.End) = Unit {0}
HasStopped (Err fault) = Unit {0}

-- what ended stays so, whatever bytes came with it
pub heard_before : (width : ℕ) (before : Progress) (came more written : List ℕ) (now : Hearing) (ended : Result Heard FollowFault) → HasStopped ended → HasHeard width before came written now ended → HasHeard width before (came ++ more) written now ended
heard_before width before came more written now (Ok heard.More) stopped has = absurd stopped
heard_before width before came more written now (Ok heard.End) stopped has = record {
  lines = has.lines;
  after = has.after;
  more = has.more ++ more;
  so_far = record {
    spelled = longer came (codes "end\n" ++ has.more) more has.lines has.so_far.spelled;
    told = has.so_far.told;
    answered = has.so_far.answered;
    wrote = has.so_far.wrote;
  };
}
heard_before width before came more written now (Err ends.Replies) stopped has = record {
  lines = has.lines;
  line = has.line;
  more = has.more ++ more;
  between = has.between;
  after = has.after;
  told = has.told;
  last = has.last;
  missing = has.missing;
  prefix = has.prefix;
  spelled = longer came (has.line ++ (10 ∷ has.more)) more has.lines has.spelled
      ∙ ap (λ bs. codes "mapf-events 1\n" ++ (whole_lines has.lines ++ bs)) (append_assoc has.line (10 ∷ has.more) more);
  answered = has.answered;
  unfinished = has.unfinished;
  part = has.part;
  wrote = has.wrote;
}
heard_before width before came more written now (Err ends.Requests) stopped has = absurd has
heard_before width before came more written now (Err (ends.Events fault)) stopped (is, title, silent) = (
  is,
  record {
    line = title.line;
    rest = title.rest ++ more;
    cut = record { same = ap (λ bs. bs ++ more) title.cut.same ∙ append_assoc title.line (10 ∷ title.rest) more; whole = title.cut.whole };
    other = title.other;
  },
  silent,
)

-- ---- more bytes than one

pub nothing_heard : (width : ℕ) (before : Progress) (came written : List ℕ) (now : Hearing) → IsHearing width before came written now → IsHearing width before (came ++ []) (written ++ []) now
nothing_heard width before came written now hearing =
    subst (λ xs. IsHearing width before xs (written ++ []) now) (sym (append-nil came)) (subst (λ xs. IsHearing width before came xs now) (sym (append-nil written)) hearing)

-- the answers to the bytes before this one, and to this one
pub heard_more : (width : ℕ) (before : Progress) (came written bytes text more : List ℕ) (place : ℕ) (now : Hearing) (ended : Result Heard FollowFault) → place < length bytes →
    HasHeard width before ((came ++ take place bytes) ++ get_or bytes place 0 ∷ []) ((written ++ text) ++ more) now ended → HasHeard width before (came ++ take (place + 1) bytes) (written ++ (text ++ more)) now ended
heard_more width before came written bytes text more place now ended within has =
    let all : (came ++ take place bytes) ++ get_or bytes place 0 ∷ [] ≡ came ++ take (place + 1) bytes =
    append_assoc came (take place bytes) (get_or bytes place 0 ∷ []) ∙ ap (λ xs. came ++ xs) (sym (take_more bytes place 0 within)) in
    subst (λ xs. HasHeard width before xs (written ++ (text ++ more)) now ended) all
    (subst (λ xs. HasHeard width before ((came ++ take place bytes) ++ get_or bytes place 0 ∷ []) xs now ended) (append_assoc written text more) has)

-- where the run has to end then, the bytes behind them don't matter
pub heard_last : (width : ℕ) (before : Progress) (came written bytes text more : List ℕ) (place : ℕ) (now : Hearing) (ended : Result Heard FollowFault) → place < length bytes → HasStopped ended →
    HasHeard width before ((came ++ take place bytes) ++ get_or bytes place 0 ∷ []) ((written ++ text) ++ more) now ended → HasHeard width before (came ++ bytes) (written ++ (text ++ more)) now ended
heard_last width before came written bytes text more place now ended within stopped has =
    let so_far = heard_more width before came written bytes text more place now ended within has in
    let all : (came ++ take (place + 1) bytes) ++ drop (place + 1) bytes ≡ came ++ bytes =
    append_assoc came (take (place + 1) bytes) (drop (place + 1) bytes) ∙ ap (λ xs. came ++ xs) (take-append-drop (place + 1) bytes) in
    subst (λ xs. HasHeard width before xs (written ++ (text ++ more)) now ended) all
    (heard_before width before (came ++ take (place + 1) bytes) (drop (place + 1) bytes) (written ++ (text ++ more)) now ended stopped so_far)

-- ---- how a run ends

-- because of what was heard
pub heard_out : (width : ℕ) (before : Progress) (left : Option (List ℕ)) (came written : List ℕ) (now : Hearing) (fault : FollowFault) → HasHeard width before came written now (Err fault) → IsStopped width before left came written fault
heard_out width before left came written now ends.Replies has = has
heard_out width before left came written now ends.Requests has = absurd has
heard_out width before left came written now (ends.Events (E1 at)) (is, title, silent) = let one : at ≡ 1 = cc in (one, title, silent)
heard_out width before left came written now (ends.Events (E2 at)) (is, title, silent) = absurd cc
heard_out width before left came written now (ends.Events (E3 at)) (is, title, silent) = absurd cc
heard_out width before left came written now (ends.Events (E4 at)) (is, title, silent) = absurd cc
heard_out width before left came written now (ends.Events Memory) (is, title, silent) = absurd cc

-- because no more can be read
pub unread_on : (width : ℕ) (before : Progress) (left : Option (List ℕ)) (came written : List ℕ) (now : Hearing) → IsHearing width before came written now → IsStopped width before left came written ends.Requests
unread_on width before left came written now hearing = ⊎_elim
    (λ (title : IsAtTitle before came written now). inl title.untitled)
    (λ (later : IsAtLine width before came written now). inr (now.progress, later.listening))
    hearing

no_start : (xs : List ℕ) → take start_room xs ≡ [] → xs ≡ []
no_start [] is = refl
no_start (x ∷ xs) is = absurd cc

-- because nothing more comes
pub ended_well : (width : ℕ) (before : Progress) (left : Option (List ℕ)) (came written : List ℕ) (now : Hearing) → IsAtEnd left → IsHearing width before came written now → now.number ≢ 1 → now.line ≡ [] →
    IsAtEnd left × (after : Progress) × (listening : IsListening width before came written after) × (listening.rest ≡ [])
ended_well width before left came written now end hearing number line = ⊎_elim
    (λ (title : IsAtTitle before came written now). absurd (number title.number))
    (λ (later : IsAtLine width before came written now). (end, now.progress, later.listening, no_start later.listening.rest (sym later.start ∙ line)))
    hearing

pub ended_short : (width : ℕ) (before : Progress) (left : Option (List ℕ)) (came written : List ℕ) (now : Hearing) (fault : FollowFault) → IsAtEnd left → IsHearing width before came written now → (fault ≡ ends.Events (E2 now.number)) × ((now.number ≡ 1) ⊎ (now.line ≢ [])) →
    IsStopped width before left came written fault
ended_short width before left came written now fault end hearing (is, why) = subst (IsStopped width before left came written) (sym is) (
  end,
  ⊎_elim
      (λ (title : IsAtTitle before came written now). inl (title.number, title.untitled))
      (λ (later : IsAtLine width before came written now). inr (
        now.progress,
        later.listening,
        λ none. ⊎_elim
            (λ (first : now.number ≡ 1). let here = later.number in omega arith)
            (λ (some : now.line ≢ []). some (later.start ∙ ap (take start_room) none))
            why,
        later.number,
      ))
      hearing,
)

-- as the follower says at the end of the input
pub ended_out : {T : Type 0} (width : ℕ) (before : Progress) (left : Option (List ℕ)) (came written : List ℕ) (now : Hearing) → IsAtEnd left → IsHearing width before came written now → (r : Result T FollowFault) → OnOk r ((now.number ≢ 1) × (now.line ≡ [])) →
    IfErr r (λ fault. (fault ≡ ends.Events (E2 now.number)) × ((now.number ≡ 1) ⊎ (now.line ≢ []))) → IsOutcome width before left came written r
ended_out width before left came written now end hearing (Ok done) ok fault = inr (ended_well width before left came written now end hearing ok.0 ok.1)
ended_out width before left came written now end hearing (Err error) ok fault = ended_short width before left came written now error end hearing fault

-- ---- the promise

told_replies : (width number : ℕ) (before after : Progress) (lines : List (List ℕ)) (told : Told) → AreTold width number before lines told after → AreReplies before told.agents told.replies after
told_replies width number before after [] told (told_is, same) = subst (λ (t : Told). AreReplies before t.agents t.replies after) (sym told_is) same
told_replies width number before after (line ∷ lines) told (first, between, rest, this, others, told_is) =
    let later = told_replies width (number + 1) between after lines rest others in
    subst (λ (t : Told). AreReplies before t.agents t.replies after) (sym told_is)
    (replies_join first.agents first.replies before between after rest.agents rest.replies (by this.request this.given) later)
  where
    by : (request : Result Request EventFault) → IsGiven width before request first between → AreReplies before first.agents first.replies between
    by (Ok (Agent agent)) (reply, is, same) = subst (λ (t : Told). AreReplies before t.agents t.replies between) (sym same) (between, is, refl)
    by (Ok Status) (stays, agents, are, same) = subst (λ (t : Told). AreReplies before t.agents t.replies between) (sym same) stays
    by (Ok End) none = absurd none
    by (Err fault) (stays, same) = subst (λ (t : Told). AreReplies before t.agents t.replies between) (sym same) stays

pub always_safe : (problem : Instance) (plan : List (List ℕ)) (visits : List (List Visit)) → IsValid problem plan → AreVisitsOfAll plan visits → IsAlwaysSafe plan visits
always_safe problem plan visits valid are width lines told after all =
    let replied = told_replies width 2 (beginning visits) after lines told all in
    let kept = kept_by_replies told.agents told.replies (beginning visits) after replied (beginning_progress plan visits are) (beginning_order plan visits are) in
    let same : after.visits ≡ visits = kept.0 in
    let still : AreVisitsOfAll plan after.visits = subst (AreVisitsOfAll plan) (sym same) are in
    let since : AreReplies (beginning after.visits) told.agents told.replies after = subst (λ vs. AreReplies (beginning vs) told.agents told.replies after) (sym same) replied in
    let reached : IsReached plan after = record { visits = still; agents = told.agents; replies = told.replies; replied = since } in
    record {
      visits = still;
      apart = no_two_agents_meet problem plan after valid reached;
      prefixes = λ agent number own first own_is first_is number_is. cells_are_a_prefix after.visits told.agents told.replies after since agent own first number own_is first_is number_is;
    }
