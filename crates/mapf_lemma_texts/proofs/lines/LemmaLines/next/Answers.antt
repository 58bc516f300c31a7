use Rattle.std.proofs.Common.{◌≡◌, ◌∷◌, ◌++◌, [], ap, sym, append_assoc, ◌∙◌, take, drop, ◌+◌}
use Rattle.mapf_lemma_texts.specs.Lines.{width_of, words}
use Rattle.mapf_certificate.proofs.Windows.{Fails-text}
use Rattle.mapf_certificate.specs.Buffered.{Buffered}
use Rattle.mapf_lemma_texts.proofs.LineWindows.{line_there, rest_there}
use Rattle.mapf_lemma_texts.proofs.LineWindows.{refused_line, lacking}
use Rattle.mapf_lemma_texts.proofs.lines.LemmaLines.next.Goals as goal

pub returns-in-Err-line-clause-fails : goal.returns-in-Err-line-clause-fails
returns-in-Err-line-clause-fails g c =
    let place = c.args.place.now in
    Fails-text _ _ _ _ _ _ c.of_line.ensures c.in-Ok.ensures.works
    (refused_line place _ _ _ _ _ _ c.in-Ok.ensures.window c.in-Ok.ensures.line.1 (λ l is e. let again = c.in-Err-line.ensures.only l is (c.front.ensures ∙ e) in cc))

pub returns-in-Err-clause-fails : goal.returns-in-Err-clause-fails
returns-in-Err-clause-fails g c =
    lacking c.args.place.now _ _ _ _ _ _ _ c.in-Err.ensures.stopped c.without_line.ensures

pub returns-in-Ok-line-clause-there : goal.returns-in-Ok-line-clause-there
returns-in-Ok-line-clause-there g c = λ rest e.
    let place = c.args.place.now in
    let line = c.in-Ok-line.line in
    let is = c.in-Ok-line.ensures.found.0 in
    let (same, untouched) = c.in-Ok.ensures.there (line_there place line c.args.self.now.buffer rest is e) in
    let bytes = c.ready.new.self.bytes in
    let after = rest_there place line bytes (take c.in-Ok.n bytes) (drop (c.in-Ok.n + 1) bytes) rest is c.in-Ok.ensures.line.1 (ap (λ b. b.bytes) same ∙ e) in (
      untouched,
      c.take-in-Ok.ensures ∙ ap (λ l. let b : Buffered = record { bytes = l; left = c.ready.new.self.left } in b) after ∙ ap (λ r. let b : Buffered = record { bytes = rest; left = r.left } in b) same,
    )

pub returns-in-Ok-line-clause-begins : goal.returns-in-Ok-line-clause-begins
returns-in-Ok-line-clause-begins g c = λ has.
    let line = c.in-Ok-line.line in
    let word = words (width_of c.args.place.now) line in
    let bytes = c.ready.new.self.bytes in
    let rest = drop (c.in-Ok.n + 1) bytes in
    let same : c.ready.new.self ≡ c.args.self.now.buffer = (c.in-Ok.ensures.there has).0 in
    let front : take c.in-Ok.n bytes ≡ word = sym c.front.ensures ∙ c.in-Ok-line.ensures.found.1 in
    record {
      value = line;
      is = c.in-Ok-line.ensures.found.0;
      rest = rest;
      spelled = ap (λ b. b.bytes) (sym same) ∙ c.in-Ok.ensures.line.1.same ∙ ap (λ l. l ++ (10 ∷ rest)) front ∙ sym (append_assoc word (10 ∷ []) rest);
    }
