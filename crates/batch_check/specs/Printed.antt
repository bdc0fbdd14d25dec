-- What the program prints of a batch.
use Rattle.std.specs.Prelude.{ℕ, List, [], ◌∷◌, ◌++◌, length, Ok, Err, decimal, Result}
use Rattle.batch.specs.declared.items.Item.{Item}
use Rattle.batch.specs.declared.items.BatchRefusal.{BatchRefusal}
use Rattle.batch.specs.declared.progress.Sizes.{Sizes}
use Rattle.batch_check.specs.declared.text.Summary.{Summary}
use Rattle.batch.specs.Plans.{planned}
use Rattle.batch.specs.Reading.{batch}
use Rattle.batch.specs.Refusals.{refusal_number, refusal_line, refusal_field}
use Rattle.batch.specs.Tables.{postings_in, orders_in, runs_in}

-- the tables that the batch is read into: 200 postings, 2,000 order lines, 1,000 runs
abbrev pub tables : Sizes
tables = record { postings = 200; orders = 2000; runs = 1000 }

-- E,number,line,field
abbrev pub refused_text : BatchRefusal → List ℕ
refused_text r =
    69 ∷ 44 ∷ (decimal (refusal_number r) ++ (44 ∷ (decimal (refusal_line r) ++ (44 ∷ (decimal (refusal_field r) ++ (10 ∷ []))))))

-- B,houses,workers,patience,postings,order lines,runs
abbrev pub accepted_text : Summary → List ℕ
accepted_text s =
    (66 ∷ 44 ∷ (decimal s.houses ++ (44 ∷ (decimal s.workers ++ (44 ∷ decimal s.patience)))))
    ++ (44 ∷ (decimal s.postings ++ (44 ∷ (decimal s.lines ++ (44 ∷ (decimal s.runs ++ (10 ∷ [])))))))

-- what accepted lines, the latest first, make: the plan's numbers, and how many records are in each table
abbrev pub summary : List Item → Summary
summary past = record {
  houses = (planned past).houses;
  workers = (planned past).workers;
  patience = (planned past).patience;
  postings = length (postings_in past);
  lines = length (orders_in past);
  runs = length (runs_in past);
}

-- what is printed once the batch is read
abbrev pub text_for : Result (List Item) BatchRefusal → List ℕ
text_for (Ok past) = accepted_text (summary past)
text_for (Err r) = refused_text r

-- what is printed of any bytes
abbrev pub printed : List ℕ → List ℕ
printed bytes = text_for (batch tables bytes)
