-- The two layouts of tables.
use Rattle.std.specs.Prelude.{◌+◌, ◌*◌, ◌%◌, ◌&&◌, ◌==◌}
use Rattle.bank.specs.declared.translation.Translation.{Translation}
use Rattle.bank.specs.declared.inverted_table.Tagged.{Tagged}
use Rattle.bank.specs.Tables.{Layout}

-- 256 entries for each of 16 cores: the place tells the core
abbrev pub per_core : Layout 4096 Translation
per_core = record {
  place = λ c p. c * 256 + p % 256;
  made = λ c p f. record { page = p; frame = f };
  is_of = λ e c p. (e.page == p);
  gives = λ e. e.frame;
}

-- 256 entries for all cores together: the entry tells its core
abbrev pub all_cores : Layout 256 Tagged
all_cores = record {
  place = λ c p. (p + 16 * c) % 256;
  made = λ c p f. record { core = c; page = p; frame = f };
  is_of = λ e c p. (e.core == c) && (e.page == p);
  gives = λ e. e.frame;
}
