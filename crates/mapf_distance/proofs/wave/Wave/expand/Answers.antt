use Rattle.std.proofs.Common.{◌+◌, ◌<◌, ◌∙◌, None, length, vec_capacity, ap, slice_index_or, arith}
use Rattle.std.proofs.lemmas.List.{get_or_read}
use Rattle.mapf_distance.proofs.ExpandLemmas.{room_for, expand_start, expand_enter, expand_self, expand_end}
use Rattle.mapf_distance.proofs.wave.Wave.expand.Goals as goal

pub enter-requires : goal.enter-requires
enter-requires c =
    let inside : c.args.place < length c.args.self.now.reached.items = omega (arith, c.args.self.now.reached.ok.0) in
    let is = get_or_read c.args.self.now.reached.items _ _ inside c.index-cell.ensures 0 in
    let began = expand_start c.requires.wave inside is c.width.ensures.width c.neighbourhood.ensures (ap (λ n. n + 1) c.entry-distance.ensures) in
    record { inside = room_for began c.args.self.now.reached.len (vec_capacity c.args.self.now.reached) c.args.self.now.reached.ok.0 (let room = c.requires.room in omega arith) (slice_index_or c.neighbourhood.result 0 c.index-neighbourhood-0.result) }

pub enter-requires-2 : goal.enter-requires-2
enter-requires-2 c =
    let inside : c.args.place < length c.args.self.now.reached.items = omega (arith, c.args.self.now.reached.ok.0) in
    let is = get_or_read c.args.self.now.reached.items _ _ inside c.index-cell.ensures 0 in
    let began = expand_start c.requires.wave inside is c.width.ensures.width c.neighbourhood.ensures (ap (λ n. n + 1) c.entry-distance.ensures) in
    let above = expand_enter began c.index-neighbourhood-0.result c.enter.new.self.table.items c.enter.new.self.reached.items (omega arith) c.enter.ensures.entered in
    record { inside = room_for above c.enter.new.self.reached.len (vec_capacity c.enter.new.self.reached) c.enter.new.self.reached.ok.0 (let capacity1 = c.enter.ensures.capacity in let room = c.requires.room in omega arith) (slice_index_or c.neighbourhood.result 1 c.index-neighbourhood-1.result) }

pub enter-requires-3 : goal.enter-requires-3
enter-requires-3 c =
    let inside : c.args.place < length c.args.self.now.reached.items = omega (arith, c.args.self.now.reached.ok.0) in
    let is = get_or_read c.args.self.now.reached.items _ _ inside c.index-cell.ensures 0 in
    let began = expand_start c.requires.wave inside is c.width.ensures.width c.neighbourhood.ensures (ap (λ n. n + 1) c.entry-distance.ensures) in
    let above = expand_enter began c.index-neighbourhood-0.result c.enter.new.self.table.items c.enter.new.self.reached.items (omega arith) c.enter.ensures.entered in
    let left = expand_enter above c.index-neighbourhood-1.result c.enter-2.new.self.table.items c.enter-2.new.self.reached.items (omega arith) c.enter-2.ensures.entered in
    let here = expand_self left (ap (λ list. slice_index_or list 2 None) left.beside) in
    record { inside = room_for here c.enter-2.new.self.reached.len (vec_capacity c.enter-2.new.self.reached) c.enter-2.new.self.reached.ok.0 (let capacity1 = c.enter.ensures.capacity in let capacity2 = c.enter-2.ensures.capacity in let room = c.requires.room in omega arith) (slice_index_or c.neighbourhood.result 3 c.index-neighbourhood-3.result) }

pub enter-requires-4 : goal.enter-requires-4
enter-requires-4 c =
    let inside : c.args.place < length c.args.self.now.reached.items = omega (arith, c.args.self.now.reached.ok.0) in
    let is = get_or_read c.args.self.now.reached.items _ _ inside c.index-cell.ensures 0 in
    let began = expand_start c.requires.wave inside is c.width.ensures.width c.neighbourhood.ensures (ap (λ n. n + 1) c.entry-distance.ensures) in
    let above = expand_enter began c.index-neighbourhood-0.result c.enter.new.self.table.items c.enter.new.self.reached.items (omega arith) c.enter.ensures.entered in
    let left = expand_enter above c.index-neighbourhood-1.result c.enter-2.new.self.table.items c.enter-2.new.self.reached.items (omega arith) c.enter-2.ensures.entered in
    let here = expand_self left (ap (λ list. slice_index_or list 2 None) left.beside) in
    let right = expand_enter here c.index-neighbourhood-3.result c.enter-3.new.self.table.items c.enter-3.new.self.reached.items (omega arith) c.enter-3.ensures.entered in
    record { inside = room_for right c.enter-3.new.self.reached.len (vec_capacity c.enter-3.new.self.reached) c.enter-3.new.self.reached.ok.0 (let capacity1 = c.enter.ensures.capacity in let capacity2 = c.enter-2.ensures.capacity in let capacity3 = c.enter-3.ensures.capacity in let room = c.requires.room in omega arith) (slice_index_or c.neighbourhood.result 4 c.index-neighbourhood-4.result) }

pub returns : goal.returns
returns c =
    let inside : c.args.place < length c.args.self.now.reached.items = omega (arith, c.args.self.now.reached.ok.0) in
    let is = get_or_read c.args.self.now.reached.items _ _ inside c.index-cell.ensures 0 in
    let began = expand_start c.requires.wave inside is c.width.ensures.width c.neighbourhood.ensures (ap (λ n. n + 1) c.entry-distance.ensures) in
    let above = expand_enter began c.index-neighbourhood-0.result c.enter.new.self.table.items c.enter.new.self.reached.items (omega arith) c.enter.ensures.entered in
    let left = expand_enter above c.index-neighbourhood-1.result c.enter-2.new.self.table.items c.enter-2.new.self.reached.items (omega arith) c.enter-2.ensures.entered in
    let here = expand_self left (ap (λ list. slice_index_or list 2 None) left.beside) in
    let right = expand_enter here c.index-neighbourhood-3.result c.enter-3.new.self.table.items c.enter-3.new.self.reached.items (omega arith) c.enter-3.ensures.entered in
    let below = expand_enter right c.index-neighbourhood-4.result c.enter-4.new.self.table.items c.enter-4.new.self.reached.items (omega arith) c.enter-4.ensures.entered in
    record { wave = expand_end below (omega arith); source = below.source; capacity = c.enter-4.ensures.capacity ∙ c.enter-3.ensures.capacity ∙ c.enter-2.ensures.capacity ∙ c.enter.ensures.capacity }
