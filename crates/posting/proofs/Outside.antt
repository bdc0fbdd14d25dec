-- A source that answers void to every question out of range keeps the limits of a source.
use Rattle.std.proofs.Common.{◌≡◌, ℕ, ◌≤◌, Bool, true, false, cond, ◌&&◌, ltb, leb, ℤ, None, Option, refl}
use Rattle.std.proofs.lemmas.Bool.{and_parts, and_right, leb-true, cond-false, cond_both}
use Rattle.journal.specs.Entries.{InRange, in_range}
use Rattle.posting.specs.Sources.{Meaning, asked, OrderKept, HandKept, is_read, Limits, void_outside}
use Rattle.posting.specs.declared.order.Order.{Order}
use Rattle.posting.specs.declared.order.Order.TheVariants.{Void}

-- the limits where a question is in range
pub record Inside (m : Meaning) : Type 0 where
  pub houses : m.houses ≤ 16
  pub postings : (house : ℕ) → m.postings house ≤ 4096
  pub absent : (house : ℕ) → m.houses ≤ house → m.postings house ≡ 0
  pub some : 1 ≤ m.longest
  pub short : m.longest ≤ 16
  pub orders : (house number line : ℕ) (hand : ℤ) → asked m house number line hand ≡ true → OrderKept (m.order house number line hand)
  pub hands : (house number line : ℕ) (hand value : ℤ) → asked m house number line hand ≡ true → in_range value ≡ true → HandKept (m.found house number line hand value)
  pub unread : (house number line : ℕ) (hand value : ℤ) → is_read (m.order house number line hand) ≡ false → m.found house number line hand value ≡ None

unread_outside : (b c : Bool) (o : Order) (next : Option ℤ) → (is_read o ≡ false → next ≡ None) → is_read (cond b o Void) ≡ false → cond (b && c) next None ≡ None
unread_outside true true o next h e = h e
unread_outside true false o next h e = refl
unread_outside false c o next h e = refl

pub limits_outside : (m : Meaning) → Inside m → Limits (void_outside m)
limits_outside m inside = record {
  houses = inside.houses;
  postings = inside.postings;
  absent = inside.absent;
  some = inside.some;
  short = inside.short;
  orders = λ house number line hand.
      cond_both (asked m house number line hand) (m.order house number line hand) Void OrderKept
      (λ e. inside.orders house number line hand e) (λ e. tt);
  hands = λ house number line hand value.
      cond_both (asked m house number line hand && in_range value) (m.found house number line hand value) None HandKept
      (λ e. let parts = and_parts (asked m house number line hand) (in_range value) e in
      inside.hands house number line hand value parts.0 parts.1) (λ e. tt);
  outside = λ house number line hand e. cond-false (asked m house number line hand) (m.order house number line hand) Void e;
  unread = λ house number line hand value e.
      unread_outside (asked m house number line hand) (in_range value) (m.order house number line hand) (m.found house number line hand value)
      (inside.unread house number line hand value) e;
  strange = λ house number line hand value e.
      cond-false (asked m house number line hand && in_range value) (m.found house number line hand value) None
      (and_right (asked m house number line hand) (in_range value) e);
}

-- a hand that is asked about is in range
pub asked_hand : (m : Meaning) (house number line : ℕ) (hand : ℤ) → asked m house number line hand ≡ true → InRange hand
asked_hand m house number line hand h =
    let a = and_parts (ltb house m.houses) _ h in
    let b = and_parts (leb 1 number) _ a.1 in
    let c = and_parts (leb number (m.postings house)) _ b.1 in
    let d = and_parts (ltb line m.longest) (in_range hand) c.1 in
    leb-true _ _ d.1
