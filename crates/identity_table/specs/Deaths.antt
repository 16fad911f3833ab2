-- When identities end: a lifetime counts seconds from the addition (draft-miller-ssh-agent, "Key
-- Constraints"). Whole seconds, of a clock of 64 bits that never goes back, are ours.
use Rattle.std.specs.Prelude.{ℕ, ◌+◌, ◌^◌, Bool, true, Option, Some, None, min, nat_lt, if◌then◌else◌}

-- the second from which an identity is dead that was added at this one, by its lifetime or the default
abbrev pub death_of : ℕ → Option ℕ → Option ℕ → Option ℕ
death_of now (Some life) default = Some (now + life)
death_of now None (Some life) = Some (now + life)
death_of now None None = None

-- its lifetime has not run out at this second
abbrev pub lives_at : ℕ → Option ℕ → Bool
lives_at second None = true
lives_at second (Some death) = nat_lt second death

-- a death that a clock of 64 bits comes to
abbrev pub on_clock : Option ℕ → Option ℕ
on_clock None = None
on_clock (Some death) = if nat_lt death (2 ^ 64) then Some death else None

-- the earlier of two
abbrev pub earlier : Option ℕ → Option ℕ → Option ℕ
earlier None other = other
earlier (Some death) None = Some death
earlier (Some death) (Some other) = Some (min death other)
