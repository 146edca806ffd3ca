-- Script texts, written line by line.
use Rattle.std.specs.Prelude.{ℕ, List, [], ◌∷◌, ◌++◌}
use Prim.Native.String.{String}
use Rattle.text.specs.Bytes.{ascii}

-- a line and its newline
abbrev pub line : String → List ℕ
line s = ascii s ++ (10 ∷ [])

-- ---- one text for each fault: it passes form and breaks the rules

-- a name is read that no item wrote
abbrev pub unwritten : List ℕ
unwritten = line "var a" ++ line "wait a" ++ line ""

-- an integer where a float is asked for
abbrev pub unlike : List ℕ
unlike = line "wait 1i" ++ line ""

-- a mark without its box
abbrev pub stray : List ℕ
stray = line "endif" ++ line ""

-- nine boxes
abbrev pub deep : List ℕ
deep =
    line "if 1i == 1i"
    ++ line " if 1i == 1i"
    ++ line "  if 1i == 1i"
    ++ line "   if 1i == 1i"
    ++ line "    if 1i == 1i"
    ++ line "     if 1i == 1i"
    ++ line "      if 1i == 1i"
    ++ line "       if 1i == 1i"
    ++ line "        if 1i == 1i"
    ++ line "        endif"
    ++ line "       endif"
    ++ line "      endif"
    ++ line "     endif"
    ++ line "    endif"
    ++ line "   endif"
    ++ line "  endif"
    ++ line " endif"
    ++ line "endif"
    ++ line ""

-- a package's end with no start
abbrev pub loose : List ℕ
loose = line "pck_end" ++ line ""

-- ---- what a laxer checker would let through

-- a loop keeps what its body wrote
abbrev pub after_loop : List ℕ
after_loop =
    line "var a" ++ line "loop 1i == 2i" ++ line "store_var a 1 ja" ++ line "endloop" ++ line "wait a" ++ line ""

-- so does a sweep that may be empty
abbrev pub after_sweep : List ℕ
after_sweep =
    line "var p" ++ line "var c" ++ line "meas_loop_lsv p c 0 1 1 1" ++ line "endloop" ++ line "wait p" ++ line ""

-- the tag carries names over
abbrev pub after_tag : List ℕ
after_tag = line "var a" ++ line "store_var a 1 ja" ++ line "on_finished:" ++ line "wait a" ++ line ""

-- a missing else counts as full
abbrev pub after_if : List ℕ
after_if = line "var a" ++ line "if 1i == 2i" ++ line "store_var a 1 ja" ++ line "endif" ++ line "wait a" ++ line ""

-- kinds are not compared for copies
abbrev pub after_copy : List ℕ
after_copy =
    line "var a" ++ line "var b" ++ line "store_var a 1i ja" ++ line "store_var b 1 ja" ++ line "copy_var a b"
    ++ line "wait b" ++ line ""

-- ---- a text with every command, every box and the tag

abbrev pub night : List ℕ
night =
    line "# a night in the cellar"
    ++ line "var n"
    ++ line "var m"
    ++ line "var p"
    ++ line "var c"
    ++ line "var t"
    ++ line "set_pgstat_mode 2"
    ++ line "cell_on"
    ++ line "send_string \"hold\""
    ++ line "store_var n 0i ja"
    ++ line "copy_var n m"
    ++ line "add_var m 4i"
    ++ line "sub_var m 1i"
    ++ line "mul_var m 2i"
    ++ line "div_var m 3i"
    ++ line "timer_start"
    ++ line "wait 100m"
    ++ line "set_e 0"
    ++ line "meas_loop_lsv p c 0 1 10m 100m"
    ++ line "  pck_start"
    ++ line "  pck_add p"
    ++ line "  pck_add c"
    ++ line "  pck_end"
    ++ line "endloop"
    ++ line "loop n < m"
    ++ line "  add_var n 1i"
    ++ line "  if n == 1i"
    ++ line "    wait 1"
    ++ line "  elseif n == 2i"
    ++ line "    breakloop"
    ++ line "  else"
    ++ line "    wait 2"
    ++ line "  endif"
    ++ line "endloop"
    ++ line "meas 1 p da"
    ++ line "timer_get t"
    ++ line "meas_loop_lsv p c 0 1 10m 100m"
    ++ line "endloop"
    ++ line "abort"
    ++ line "wait 9"
    ++ line "on_finished:"
    ++ line "cell_off"
    ++ line ""
