-- A second since 1970 as the date and time of UTC (RFC 3339): the calendar is shifted so that a year begins on the 1st of
-- March, and its leap day ends it.
use Rattle.std.specs.Prelude.{ℕ, ◌+◌, ◌*◌, ◌-◌, ◌/◌, ◌%◌, List, [], ◌∷◌, ◌++◌, decimal, nat_lt, if◌then◌else◌}
use Rattle.log_book.specs.declared.clock.Day.{Day}

-- the days of 400 years
abbrev pub era_days : ℕ
era_days = 146097

-- the days since the 1st of March of the year 0, for a day since 1970
abbrev pub march_days : ℕ → ℕ
march_days day = day + 719468

-- which year of 400 a day of them is in
abbrev pub year_of_era : ℕ → ℕ
year_of_era day = (day - day / 1460 + day / 36524 - day / 146096) / 365

-- the days before a year of 400
abbrev pub days_before : ℕ → ℕ
days_before year = 365 * year + year / 4 - year / 100

-- which day of its year a day of 400 years is
abbrev pub day_of_year : ℕ → ℕ
day_of_year day = day - days_before (year_of_era day)

-- the month of a day of the year, March being 0
abbrev pub march_month : ℕ → ℕ
march_month day = (5 * day + 2) / 153

-- the month as it is counted from January
abbrev pub month_of : ℕ → ℕ
month_of march = if nat_lt march 10 then march + 3 else march - 9

-- January and February belong to the next year
abbrev pub year_by : ℕ → ℕ → ℕ
year_by march year = if nat_lt march 10 then year else year + 1

-- by the 400 years and the day in them
abbrev pub date_in : ℕ → ℕ → Day
date_in era day = record {
  year = year_by (march_month (day_of_year day)) (era * 400 + year_of_era day);
  month = month_of (march_month (day_of_year day));
  day = day_of_year day - (153 * march_month (day_of_year day) + 2) / 5 + 1;
}

-- the date of a day since 1970
unfoldable pub date_of : ℕ → Day
date_of day = date_in (march_days day / era_days) (march_days day % era_days)

-- two digits
abbrev pub two : ℕ → List ℕ
two number = (48 + number / 10 % 10) ∷ (48 + number % 10) ∷ []

-- a year has four digits at least
abbrev pub year_text : ℕ → List ℕ
year_text year = if nat_lt year 10000 then two (year / 100) ++ two (year % 100) else decimal year

-- a date as 2026-11-29
abbrev pub date_text : Day → List ℕ
date_text date = year_text date.year ++ (45 ∷ (two date.month ++ (45 ∷ two date.day)))

-- hours, minutes and seconds of a day
abbrev pub clock_text : ℕ → List ℕ
clock_text second =
    two (second / 3600) ++ (58 ∷ (two (second % 3600 / 60) ++ (58 ∷ two (second % 60))))

-- the date and the time of a second since 1970
unfoldable pub second_text : ℕ → List ℕ
second_text second =
    date_text (date_of (second / 86400)) ++ (84 ∷ (clock_text (second % 86400) ++ 90 ∷ []))
