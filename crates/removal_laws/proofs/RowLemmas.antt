-- Witnesses of literal rows: two runs of alike events.
use Rattle.std.proofs.Common.{ℕ, ◌==◌, [], ◌∷◌, ◌++◌, refl, inl, inr, Bool, true, false, cond}
use Rattle.std.specs.Prelude.{codes}
use Rattle.std.specs.Prelude.{List}
use Rattle.wire_text.specs.Wire.{announced_len}
use Rattle.wire_text.specs.Frames.{front, split, split_up_to}
use Rattle.agent_model.specs.Rows.{remove}
use Rattle.agent_secrecy.specs.Alike.{AreAlike, AreAlikeStreams}
use Rattle.agent_secrecy.specs.Rows.{add_with, every_client, key_of}
use Rattle.agent_secrecy.proofs.RowLemmas.{stand_ins}
use Rattle.removal_laws.specs.Rows.{removed}

-- the bytes of a client of number 1, or of none
abbrev bytes_by : Bool → ℕ → List ℕ
bytes_by is secret = cond is (add_with 17 secret) [] ++ (cond is (remove 17) [] ++ [])

streams_by : (is : Bool) → AreAlikeStreams (bytes_by is 33) (bytes_by is 34)
unfolding split split_up_to front announced_len
streams_by true = record {
  bodies = (
    inr record {
      number = 17;
      adds = inl refl;
      key = key_of 17 33;
      other_key = key_of 17 34;
      keys = stand_ins;
      rest = 0 ∷ 0 ∷ 0 ∷ 3 ∷ codes "one";
      left = refl;
      right = refl;
    },
    (inl refl, tt),
  );
  lengths = refl;
  heads = refl;
}
streams_by false = record { bodies = tt; lengths = refl; heads = refl }

pub removals : AreAlike (removed 33) (removed 34)
removals = record {
  door = every_client;
  joins = (refl, (tt, (tt, (tt, tt))));
  shapes = (refl, refl, (refl, refl, (refl, refl, (refl, refl, tt))));
  streams = λ number client. streams_by (number == 1);
}
