-- What literal rows are made of.
use Rattle.std.specs.Prelude.{ℕ, List, [], ◌∷◌, Option, codes}
use Rattle.confirm_desk.specs.Confirmations.{Confirmation, Held, linked, raise}
use Rattle.confirm_desk.specs.declared.held.Held.{Held as CodeHeld}

-- what the client of port 70 holds for the second addition, and that of port 80 for the third
abbrev pub first_held : Held
first_held = record { asker = 70; addition = 2; message = codes "abc"; flags = 0 }

-- what the client of port 80 holds for the third addition
abbrev pub second_held : Held
second_held = record { asker = 80; addition = 3; message = codes "de"; flags = 2 }

-- what the client of port 90 holds for the first addition
abbrev pub third_held : Held
third_held = record { asker = 90; addition = 1; message = []; flags = 0 }

-- what is handed back of the first two
abbrev pub first_back : CodeHeld
first_back = record { asker = 70; addition = 2; message = codes "abc"; flags = 0 }

-- what is handed back of the second
abbrev pub second_back : CodeHeld
second_back = record { asker = 80; addition = 3; message = codes "de"; flags = 2 }

-- jobs 1 and 4 ask the user for them, from seconds 7 and 9 on
abbrev pub two : List Confirmation
two = raise 4 second_held (codes "no?") 9 (raise 1 first_held (codes "ok?") 7 [])

-- and their child processes came to ports 5 and 6
abbrev pub two_linked : List Confirmation
two_linked = linked 4 6 (linked 1 5 two)

-- the first and the second, with these ports, bytes heard and bytes owed
abbrev pub first_with : Option ℕ → List ℕ → List ℕ → Confirmation
first_with port heard owed = record {
  job = 1;
  asker = 70;
  addition = 2;
  message = codes "abc";
  flags = 0;
  raised_at = 7;
  port = port;
  heard = heard;
  owed = owed;
}

-- the second, with this port, bytes heard and bytes owed
abbrev pub second_with : Option ℕ → List ℕ → List ℕ → Confirmation
second_with port heard owed = record {
  job = 4;
  asker = 80;
  addition = 3;
  message = codes "de";
  flags = 2;
  raised_at = 9;
  port = port;
  heard = heard;
  owed = owed;
}

-- the frames that ask
abbrev pub first_frame : List ℕ
first_frame = 0 ∷ 0 ∷ 0 ∷ 16 ∷ 3 ∷ 0 ∷ 0 ∷ 0 ∷ 0 ∷ 0 ∷ 0 ∷ 0 ∷ 1 ∷ 0 ∷ 0 ∷ 0 ∷ 3 ∷ 111 ∷ 107 ∷ 63 ∷ []

-- the frame that asks for the second
abbrev pub second_frame : List ℕ
second_frame = 0 ∷ 0 ∷ 0 ∷ 16 ∷ 3 ∷ 0 ∷ 0 ∷ 0 ∷ 0 ∷ 0 ∷ 0 ∷ 0 ∷ 4 ∷ 0 ∷ 0 ∷ 0 ∷ 3 ∷ 110 ∷ 111 ∷ 63 ∷ []

-- a frame whose body is this kind and a number
abbrev pub answer : ℕ → ℕ → List ℕ
answer kind number = 0 ∷ 0 ∷ 0 ∷ 9 ∷ kind ∷ 0 ∷ 0 ∷ 0 ∷ 0 ∷ 0 ∷ 0 ∷ 0 ∷ number ∷ []
