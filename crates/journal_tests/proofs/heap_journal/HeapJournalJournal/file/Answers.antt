use Rattle.std.proofs.Common.{◌<◌, map, length, vec_items, refl, ap, ◌∙◌, arith, rules}
use Rattle.std.proofs.lemmas.List.{length-map, map_push}
use Rattle.journal.specs.Entries.{posted}
use Rattle.journal.proofs.Filed.{can_be_filed}
use Rattle.journal_tests.specs.Customer.{heap_entries, heap_size}
use Rattle.journal_tests.proofs.heap_journal.HeapJournalJournal.file.Goals as goal

pub push_reserved-requires : goal.push_reserved-requires
push_reserved-requires c =
    let h = c.args.self.now in
    let free : length (heap_entries h) < heap_size h = (can_be_filed c.args.e.now c.args.place (length (heap_entries h)) (heap_size h) (search rules)).room in
    omega (arith, h.room, h.entries.ok.0, length-map (vec_items h.entries) posted)

pub invariant_of-self : goal.invariant_of-self
invariant_of-self c =
    let h = c.args.self.now in
    let free : length (heap_entries h) < heap_size h = (can_be_filed c.args.e.now c.args.place (length (heap_entries h)) (heap_size h) (search rules)).room in
    record {
      filed = omega (arith, h.entries.ok.0, c.push_reserved.ensures.len, length-map (vec_items h.entries) posted);
      room = omega (arith, h.room, c.push_reserved.ensures.capacity);
      small = h.small;
    }

pub returns : goal.returns
returns c = record {
  answer = search rules;
  entries = ap (map posted) c.push_reserved.ensures.items ∙ map_push posted (vec_items c.args.self.now.entries) c.args.e.now;
  size = refl;
}
