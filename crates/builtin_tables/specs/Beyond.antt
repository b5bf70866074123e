-- What 7.4 declares itself beyond the profile: the functions, classes and constants of the extensions that each build has (Core,
-- standard, SPL, date, pcre, Reflection, hash, json), of those that a build has where nothing switches them off (ctype, filter,
-- iconv, libxml, mbstring, posix, session, tokenizer), and of the command line. By the first byte of their names; names of
-- functions and classes are in lower case. (PHP manual, "Function Reference", "Predefined Constants"; UPGRADING 8.0 for what
-- was removed.)
use Rattle.std.specs.Prelude.{ℕ, nat_eq, Bool, false, ◌||◌, if◌then◌else◌, List, [], ◌∷◌, codes}
use Rattle.std.specs.Str.{bytes_eq, str_to_ascii_lowercase}
use Prim.Native.String.{String}

-- names by their first byte
pub record Letter : Type 0 where
  pub first : ℕ
  pub names : List String

abbrev at : ℕ → List String → Letter
at b names = record { first = b; names = names }

-- whether a name is among these
abbrev is_among : List String → List ℕ → Bool
is_among [] name = false
is_among (n ∷ ns) name = bytes_eq (codes n) name || is_among ns name

-- whether a name that begins with this byte is listed
abbrev is_under : List Letter → ℕ → List ℕ → Bool
is_under [] b name = false
is_under (l ∷ ls) b name = if nat_eq l.first b then is_among l.names name else is_under ls b name

-- whether a name is listed, with case
abbrev pub is_listed : List Letter → List ℕ → Bool
is_listed letters [] = false
is_listed letters (b ∷ bs) = is_under letters b (b ∷ bs)

-- functions, in lower case
unfoldable pub beyond_functions : List Letter
beyond_functions =
    at 95 ("__autoload" ∷ [])
    ∷ at 97 ("abs" ∷ "acos" ∷ "acosh" ∷ "addcslashes" ∷ "addslashes" ∷ "apache_request_headers" ∷
    "apache_response_headers" ∷ "array_change_key_case" ∷ "array_chunk" ∷ "array_column" ∷ "array_combine" ∷
    "array_count_values" ∷ "array_diff" ∷ "array_diff_assoc" ∷ "array_diff_key" ∷ "array_diff_uassoc" ∷
    "array_diff_ukey" ∷ "array_fill" ∷ "array_fill_keys" ∷ "array_filter" ∷ "array_flip" ∷ "array_intersect" ∷
    "array_intersect_assoc" ∷ "array_intersect_key" ∷ "array_intersect_uassoc" ∷ "array_intersect_ukey" ∷
    "array_key_first" ∷ "array_key_last" ∷ "array_map" ∷ "array_merge" ∷ "array_merge_recursive" ∷
    "array_multisort" ∷ "array_pad" ∷ "array_pop" ∷ "array_product" ∷ "array_push" ∷ "array_rand" ∷ "array_reduce" ∷
    "array_replace" ∷ "array_replace_recursive" ∷ "array_reverse" ∷ "array_search" ∷ "array_shift" ∷ "array_slice" ∷
    "array_splice" ∷ "array_sum" ∷ "array_udiff" ∷ "array_udiff_assoc" ∷ "array_udiff_uassoc" ∷ "array_uintersect" ∷
    "array_uintersect_assoc" ∷ "array_uintersect_uassoc" ∷ "array_unique" ∷ "array_unshift" ∷ "array_walk" ∷
    "array_walk_recursive" ∷ "arsort" ∷ "asin" ∷ "asinh" ∷ "asort" ∷ "assert" ∷ "assert_options" ∷ "atan" ∷ "atan2" ∷
    "atanh" ∷ [])
    ∷ at 98 ("base64_decode" ∷ "base64_encode" ∷ "base_convert" ∷ "basename" ∷ "bin2hex" ∷ "bindec" ∷ "boolval" ∷ [])
    ∷ at 99 ("call_user_func" ∷ "call_user_func_array" ∷ "ceil" ∷ "chdir" ∷ "checkdate" ∷ "checkdnsrr" ∷ "chgrp" ∷
    "chmod" ∷ "chop" ∷ "chown" ∷ "chroot" ∷ "chunk_split" ∷ "class_alias" ∷ "class_exists" ∷ "class_implements" ∷
    "class_parents" ∷ "class_uses" ∷ "clearstatcache" ∷ "cli_get_process_title" ∷ "cli_set_process_title" ∷
    "closedir" ∷ "closelog" ∷ "compact" ∷ "connection_aborted" ∷ "connection_status" ∷ "constant" ∷
    "convert_cyr_string" ∷ "convert_uudecode" ∷ "convert_uuencode" ∷ "copy" ∷ "cos" ∷ "cosh" ∷ "count_chars" ∷
    "crc32" ∷ "create_function" ∷ "crypt" ∷ "ctype_alnum" ∷ "ctype_alpha" ∷ "ctype_cntrl" ∷ "ctype_digit" ∷
    "ctype_graph" ∷ "ctype_lower" ∷ "ctype_print" ∷ "ctype_punct" ∷ "ctype_space" ∷ "ctype_upper" ∷ "ctype_xdigit" ∷
    "current" ∷ [])
    ∷ at 100 ("date" ∷ "date_add" ∷ "date_create" ∷ "date_create_from_format" ∷ "date_create_immutable" ∷
    "date_create_immutable_from_format" ∷ "date_date_set" ∷ "date_default_timezone_get" ∷
    "date_default_timezone_set" ∷ "date_diff" ∷ "date_format" ∷ "date_get_last_errors" ∷
    "date_interval_create_from_date_string" ∷ "date_interval_format" ∷ "date_isodate_set" ∷ "date_modify" ∷
    "date_offset_get" ∷ "date_parse" ∷ "date_parse_from_format" ∷ "date_sub" ∷ "date_sun_info" ∷ "date_sunrise" ∷
    "date_sunset" ∷ "date_time_set" ∷ "date_timestamp_get" ∷ "date_timestamp_set" ∷ "date_timezone_get" ∷
    "date_timezone_set" ∷ "debug_backtrace" ∷ "debug_print_backtrace" ∷ "debug_zval_dump" ∷ "decbin" ∷ "dechex" ∷
    "decoct" ∷ "defined" ∷ "deg2rad" ∷ "dir" ∷ "dirname" ∷ "disk_free_space" ∷ "disk_total_space" ∷ "diskfreespace" ∷
    "dl" ∷ "dns_check_record" ∷ "dns_get_mx" ∷ "dns_get_record" ∷ "doubleval" ∷ [])
    ∷ at 101 ("each" ∷ "end" ∷ "error_clear_last" ∷ "error_get_last" ∷ "error_log" ∷ "error_reporting" ∷
    "escapeshellarg" ∷ "escapeshellcmd" ∷ "exec" ∷ "exp" ∷ "expm1" ∷ "extension_loaded" ∷ "extract" ∷ "ezmlm_hash" ∷ [])
    ∷ at 102 ("fastcgi_finish_request" ∷ "fclose" ∷ "feof" ∷ "fflush" ∷ "fgetc" ∷ "fgetcsv" ∷ "fgets" ∷ "fgetss" ∷
    "file" ∷ "file_exists" ∷ "file_get_contents" ∷ "file_put_contents" ∷ "fileatime" ∷ "filectime" ∷ "filegroup" ∷
    "fileinode" ∷ "filemtime" ∷ "fileowner" ∷ "fileperms" ∷ "filesize" ∷ "filetype" ∷ "filter_has_var" ∷
    "filter_id" ∷ "filter_input" ∷ "filter_input_array" ∷ "filter_list" ∷ "filter_var" ∷ "filter_var_array" ∷
    "floatval" ∷ "flock" ∷ "floor" ∷ "flush" ∷ "fmod" ∷ "fnmatch" ∷ "fopen" ∷ "forward_static_call" ∷
    "forward_static_call_array" ∷ "fpassthru" ∷ "fprintf" ∷ "fputcsv" ∷ "fputs" ∷ "fread" ∷ "fscanf" ∷ "fseek" ∷
    "fsockopen" ∷ "fstat" ∷ "ftell" ∷ "ftok" ∷ "ftruncate" ∷ "func_get_arg" ∷ "func_get_args" ∷ "func_num_args" ∷
    "function_exists" ∷ "fwrite" ∷ [])
    ∷ at 103 ("gc_collect_cycles" ∷ "gc_disable" ∷ "gc_enable" ∷ "gc_enabled" ∷ "gc_mem_caches" ∷ "gc_status" ∷
    "get_browser" ∷ "get_called_class" ∷ "get_cfg_var" ∷ "get_class_methods" ∷ "get_class_vars" ∷
    "get_current_user" ∷ "get_declared_classes" ∷ "get_declared_interfaces" ∷ "get_declared_traits" ∷
    "get_defined_constants" ∷ "get_defined_functions" ∷ "get_defined_vars" ∷ "get_extension_funcs" ∷ "get_headers" ∷
    "get_html_translation_table" ∷ "get_include_path" ∷ "get_included_files" ∷ "get_loaded_extensions" ∷
    "get_mangled_object_vars" ∷ "get_meta_tags" ∷ "get_object_vars" ∷ "get_parent_class" ∷ "get_required_files" ∷
    "get_resource_type" ∷ "get_resources" ∷ "getallheaders" ∷ "getcwd" ∷ "getdate" ∷ "getenv" ∷ "gethostbyaddr" ∷
    "gethostbyname" ∷ "gethostbynamel" ∷ "gethostname" ∷ "getimagesize" ∷ "getimagesizefromstring" ∷ "getlastmod" ∷
    "getmxrr" ∷ "getmygid" ∷ "getmyinode" ∷ "getmypid" ∷ "getmyuid" ∷ "getopt" ∷ "getprotobyname" ∷
    "getprotobynumber" ∷ "getrandmax" ∷ "getrusage" ∷ "getservbyname" ∷ "getservbyport" ∷ "gettimeofday" ∷
    "gettype" ∷ "glob" ∷ "gmdate" ∷ "gmmktime" ∷ "gmstrftime" ∷ [])
    ∷ at 104 ("hash" ∷ "hash_algos" ∷ "hash_copy" ∷ "hash_equals" ∷ "hash_file" ∷ "hash_final" ∷ "hash_hkdf" ∷
    "hash_hmac" ∷ "hash_hmac_algos" ∷ "hash_hmac_file" ∷ "hash_init" ∷ "hash_pbkdf2" ∷ "hash_update" ∷
    "hash_update_file" ∷ "hash_update_stream" ∷ "header" ∷ "header_register_callback" ∷ "header_remove" ∷
    "headers_list" ∷ "headers_sent" ∷ "hebrev" ∷ "hebrevc" ∷ "hex2bin" ∷ "hexdec" ∷ "highlight_file" ∷
    "highlight_string" ∷ "hrtime" ∷ "html_entity_decode" ∷ "htmlentities" ∷ "htmlspecialchars" ∷
    "htmlspecialchars_decode" ∷ "http_build_query" ∷ "http_response_code" ∷ "hypot" ∷ [])
    ∷ at 105 ("iconv" ∷ "iconv_get_encoding" ∷ "iconv_mime_decode" ∷ "iconv_mime_decode_headers" ∷
    "iconv_mime_encode" ∷ "iconv_set_encoding" ∷ "iconv_strlen" ∷ "iconv_strpos" ∷ "iconv_strrpos" ∷ "iconv_substr" ∷
    "idate" ∷ "ignore_user_abort" ∷ "image_type_to_extension" ∷ "image_type_to_mime_type" ∷ "in_array" ∷
    "inet_ntop" ∷ "inet_pton" ∷ "ini_alter" ∷ "ini_get" ∷ "ini_get_all" ∷ "ini_restore" ∷ "ini_set" ∷
    "interface_exists" ∷ "ip2long" ∷ "iptcembed" ∷ "iptcparse" ∷ "is_a" ∷ "is_callable" ∷ "is_countable" ∷ "is_dir" ∷
    "is_double" ∷ "is_executable" ∷ "is_file" ∷ "is_finite" ∷ "is_infinite" ∷ "is_integer" ∷ "is_iterable" ∷
    "is_link" ∷ "is_long" ∷ "is_nan" ∷ "is_numeric" ∷ "is_object" ∷ "is_readable" ∷ "is_resource" ∷ "is_scalar" ∷
    "is_subclass_of" ∷ "is_uploaded_file" ∷ "is_writable" ∷ "is_writeable" ∷ "iterator_apply" ∷ "iterator_count" ∷
    "iterator_to_array" ∷ [])
    ∷ at 106 ("json_decode" ∷ "json_encode" ∷ "json_last_error" ∷ "json_last_error_msg" ∷ [])
    ∷ at 107 ("key" ∷ "key_exists" ∷ "krsort" ∷ "ksort" ∷ [])
    ∷ at 108 ("lcfirst" ∷ "lcg_value" ∷ "lchgrp" ∷ "lchown" ∷ "levenshtein" ∷ "libxml_clear_errors" ∷
    "libxml_disable_entity_loader" ∷ "libxml_get_errors" ∷ "libxml_get_last_error" ∷
    "libxml_set_external_entity_loader" ∷ "libxml_set_streams_context" ∷ "libxml_use_internal_errors" ∷ "link" ∷
    "linkinfo" ∷ "localeconv" ∷ "localtime" ∷ "log" ∷ "log10" ∷ "log1p" ∷ "long2ip" ∷ "lstat" ∷ "ltrim" ∷ [])
    ∷ at 109 ("mail" ∷ "max" ∷ "mb_check_encoding" ∷ "mb_chr" ∷ "mb_convert_case" ∷ "mb_convert_encoding" ∷
    "mb_convert_kana" ∷ "mb_convert_variables" ∷ "mb_decode_mimeheader" ∷ "mb_decode_numericentity" ∷
    "mb_detect_encoding" ∷ "mb_detect_order" ∷ "mb_encode_mimeheader" ∷ "mb_encode_numericentity" ∷
    "mb_encoding_aliases" ∷ "mb_ereg" ∷ "mb_ereg_match" ∷ "mb_ereg_replace" ∷ "mb_ereg_replace_callback" ∷
    "mb_ereg_search" ∷ "mb_ereg_search_getpos" ∷ "mb_ereg_search_getregs" ∷ "mb_ereg_search_init" ∷
    "mb_ereg_search_pos" ∷ "mb_ereg_search_regs" ∷ "mb_ereg_search_setpos" ∷ "mb_eregi" ∷ "mb_eregi_replace" ∷
    "mb_get_info" ∷ "mb_http_input" ∷ "mb_http_output" ∷ "mb_internal_encoding" ∷ "mb_language" ∷
    "mb_list_encodings" ∷ "mb_ord" ∷ "mb_output_handler" ∷ "mb_parse_str" ∷ "mb_preferred_mime_name" ∷
    "mb_regex_encoding" ∷ "mb_regex_set_options" ∷ "mb_scrub" ∷ "mb_send_mail" ∷ "mb_split" ∷ "mb_str_split" ∷
    "mb_strcut" ∷ "mb_strimwidth" ∷ "mb_stripos" ∷ "mb_stristr" ∷ "mb_strlen" ∷ "mb_strpos" ∷ "mb_strrchr" ∷
    "mb_strrichr" ∷ "mb_strripos" ∷ "mb_strrpos" ∷ "mb_strstr" ∷ "mb_strtolower" ∷ "mb_strtoupper" ∷ "mb_strwidth" ∷
    "mb_substitute_character" ∷ "mb_substr" ∷ "mb_substr_count" ∷ "mbereg" ∷ "mbereg_match" ∷ "mbereg_replace" ∷
    "mbereg_search" ∷ "mbereg_search_getpos" ∷ "mbereg_search_getregs" ∷ "mbereg_search_init" ∷ "mbereg_search_pos" ∷
    "mbereg_search_regs" ∷ "mbereg_search_setpos" ∷ "mberegi" ∷ "mberegi_replace" ∷ "mbregex_encoding" ∷ "mbsplit" ∷
    "md5" ∷ "md5_file" ∷ "memory_get_peak_usage" ∷ "memory_get_usage" ∷ "metaphone" ∷ "method_exists" ∷ "mhash" ∷
    "mhash_count" ∷ "mhash_get_block_size" ∷ "mhash_get_hash_name" ∷ "mhash_keygen_s2k" ∷ "microtime" ∷ "min" ∷
    "mkdir" ∷ "mktime" ∷ "money_format" ∷ "move_uploaded_file" ∷ "mt_getrandmax" ∷ "mt_rand" ∷ "mt_srand" ∷ [])
    ∷ at 110 ("natcasesort" ∷ "natsort" ∷ "net_get_interfaces" ∷ "next" ∷ "nl2br" ∷ "nl_langinfo" ∷ "number_format" ∷ [])
    ∷ at 111 ("ob_clean" ∷ "ob_end_clean" ∷ "ob_end_flush" ∷ "ob_flush" ∷ "ob_get_clean" ∷ "ob_get_contents" ∷
    "ob_get_flush" ∷ "ob_get_length" ∷ "ob_get_level" ∷ "ob_get_status" ∷ "ob_implicit_flush" ∷ "ob_list_handlers" ∷
    "ob_start" ∷ "octdec" ∷ "opendir" ∷ "openlog" ∷ "output_add_rewrite_var" ∷ "output_reset_rewrite_vars" ∷ [])
    ∷ at 112 ("pack" ∷ "parse_ini_file" ∷ "parse_ini_string" ∷ "parse_str" ∷ "parse_url" ∷ "passthru" ∷
    "password_algos" ∷ "password_get_info" ∷ "password_hash" ∷ "password_needs_rehash" ∷ "password_verify" ∷
    "pathinfo" ∷ "pclose" ∷ "pfsockopen" ∷ "php_ini_loaded_file" ∷ "php_ini_scanned_files" ∷ "php_sapi_name" ∷
    "php_strip_whitespace" ∷ "php_uname" ∷ "phpcredits" ∷ "phpinfo" ∷ "phpversion" ∷ "pi" ∷ "popen" ∷ "pos" ∷
    "posix_access" ∷ "posix_ctermid" ∷ "posix_errno" ∷ "posix_get_last_error" ∷ "posix_getcwd" ∷ "posix_getegid" ∷
    "posix_geteuid" ∷ "posix_getgid" ∷ "posix_getgrgid" ∷ "posix_getgrnam" ∷ "posix_getgroups" ∷ "posix_getlogin" ∷
    "posix_getpgid" ∷ "posix_getpgrp" ∷ "posix_getpid" ∷ "posix_getppid" ∷ "posix_getpwnam" ∷ "posix_getpwuid" ∷
    "posix_getrlimit" ∷ "posix_getsid" ∷ "posix_getuid" ∷ "posix_initgroups" ∷ "posix_isatty" ∷ "posix_kill" ∷
    "posix_mkfifo" ∷ "posix_mknod" ∷ "posix_setegid" ∷ "posix_seteuid" ∷ "posix_setgid" ∷ "posix_setpgid" ∷
    "posix_setrlimit" ∷ "posix_setsid" ∷ "posix_setuid" ∷ "posix_strerror" ∷ "posix_times" ∷ "posix_ttyname" ∷
    "posix_uname" ∷ "pow" ∷ "preg_filter" ∷ "preg_grep" ∷ "preg_last_error" ∷ "preg_match" ∷ "preg_match_all" ∷
    "preg_quote" ∷ "preg_replace" ∷ "preg_replace_callback" ∷ "preg_replace_callback_array" ∷ "preg_split" ∷ "prev" ∷
    "print_r" ∷ "printf" ∷ "proc_close" ∷ "proc_get_status" ∷ "proc_nice" ∷ "proc_open" ∷ "proc_terminate" ∷
    "property_exists" ∷ "putenv" ∷ [])
    ∷ at 113 ("quoted_printable_decode" ∷ "quoted_printable_encode" ∷ "quotemeta" ∷ [])
    ∷ at 114 ("rad2deg" ∷ "rand" ∷ "random_bytes" ∷ "random_int" ∷ "range" ∷ "rawurldecode" ∷ "rawurlencode" ∷
    "readdir" ∷ "readfile" ∷ "readlink" ∷ "realpath" ∷ "realpath_cache_get" ∷ "realpath_cache_size" ∷
    "register_shutdown_function" ∷ "register_tick_function" ∷ "rename" ∷ "reset" ∷ "restore_error_handler" ∷
    "restore_exception_handler" ∷ "restore_include_path" ∷ "rewind" ∷ "rewinddir" ∷ "rmdir" ∷ "round" ∷ "rsort" ∷
    "rtrim" ∷ [])
    ∷ at 115 ("scandir" ∷ "serialize" ∷ "session_abort" ∷ "session_cache_expire" ∷ "session_cache_limiter" ∷
    "session_commit" ∷ "session_create_id" ∷ "session_decode" ∷ "session_destroy" ∷ "session_encode" ∷ "session_gc" ∷
    "session_get_cookie_params" ∷ "session_id" ∷ "session_module_name" ∷ "session_name" ∷ "session_regenerate_id" ∷
    "session_register_shutdown" ∷ "session_reset" ∷ "session_save_path" ∷ "session_set_cookie_params" ∷
    "session_set_save_handler" ∷ "session_start" ∷ "session_status" ∷ "session_unset" ∷ "session_write_close" ∷
    "set_error_handler" ∷ "set_exception_handler" ∷ "set_file_buffer" ∷ "set_include_path" ∷ "set_time_limit" ∷
    "setcookie" ∷ "setlocale" ∷ "setrawcookie" ∷ "settype" ∷ "sha1" ∷ "sha1_file" ∷ "shell_exec" ∷ "show_source" ∷
    "shuffle" ∷ "similar_text" ∷ "sin" ∷ "sinh" ∷ "sizeof" ∷ "sleep" ∷ "socket_get_status" ∷ "socket_set_blocking" ∷
    "socket_set_timeout" ∷ "sort" ∷ "soundex" ∷ "spl_autoload" ∷ "spl_autoload_call" ∷ "spl_autoload_extensions" ∷
    "spl_autoload_functions" ∷ "spl_autoload_register" ∷ "spl_autoload_unregister" ∷ "spl_classes" ∷
    "spl_object_hash" ∷ "spl_object_id" ∷ "sprintf" ∷ "sqrt" ∷ "srand" ∷ "sscanf" ∷ "stat" ∷ "str_getcsv" ∷
    "str_ireplace" ∷ "str_pad" ∷ "str_rot13" ∷ "str_shuffle" ∷ "str_split" ∷ "str_word_count" ∷ "strcasecmp" ∷
    "strchr" ∷ "strcmp" ∷ "strcoll" ∷ "strcspn" ∷ "stream_bucket_append" ∷ "stream_bucket_make_writeable" ∷
    "stream_bucket_new" ∷ "stream_bucket_prepend" ∷ "stream_context_create" ∷ "stream_context_get_default" ∷
    "stream_context_get_options" ∷ "stream_context_get_params" ∷ "stream_context_set_default" ∷
    "stream_context_set_option" ∷ "stream_context_set_params" ∷ "stream_copy_to_stream" ∷ "stream_filter_append" ∷
    "stream_filter_prepend" ∷ "stream_filter_register" ∷ "stream_filter_remove" ∷ "stream_get_contents" ∷
    "stream_get_filters" ∷ "stream_get_line" ∷ "stream_get_meta_data" ∷ "stream_get_transports" ∷
    "stream_get_wrappers" ∷ "stream_is_local" ∷ "stream_isatty" ∷ "stream_register_wrapper" ∷
    "stream_resolve_include_path" ∷ "stream_select" ∷ "stream_set_blocking" ∷ "stream_set_chunk_size" ∷
    "stream_set_read_buffer" ∷ "stream_set_timeout" ∷ "stream_set_write_buffer" ∷ "stream_socket_accept" ∷
    "stream_socket_client" ∷ "stream_socket_enable_crypto" ∷ "stream_socket_get_name" ∷ "stream_socket_pair" ∷
    "stream_socket_recvfrom" ∷ "stream_socket_sendto" ∷ "stream_socket_server" ∷ "stream_socket_shutdown" ∷
    "stream_supports_lock" ∷ "stream_wrapper_register" ∷ "stream_wrapper_restore" ∷ "stream_wrapper_unregister" ∷
    "strftime" ∷ "strip_tags" ∷ "stripcslashes" ∷ "stripos" ∷ "stripslashes" ∷ "stristr" ∷ "strnatcasecmp" ∷
    "strnatcmp" ∷ "strncasecmp" ∷ "strncmp" ∷ "strpbrk" ∷ "strptime" ∷ "strrchr" ∷ "strrev" ∷ "strripos" ∷
    "strrpos" ∷ "strspn" ∷ "strstr" ∷ "strtok" ∷ "strtolower" ∷ "strtotime" ∷ "strtoupper" ∷ "strtr" ∷ "strval" ∷
    "substr_compare" ∷ "substr_count" ∷ "substr_replace" ∷ "symlink" ∷ "sys_get_temp_dir" ∷ "sys_getloadavg" ∷
    "syslog" ∷ "system" ∷ [])
    ∷ at 116 ("tan" ∷ "tanh" ∷ "tempnam" ∷ "time" ∷ "time_nanosleep" ∷ "time_sleep_until" ∷
    "timezone_abbreviations_list" ∷ "timezone_identifiers_list" ∷ "timezone_location_get" ∷
    "timezone_name_from_abbr" ∷ "timezone_name_get" ∷ "timezone_offset_get" ∷ "timezone_open" ∷
    "timezone_transitions_get" ∷ "timezone_version_get" ∷ "tmpfile" ∷ "token_get_all" ∷ "token_name" ∷ "touch" ∷
    "trait_exists" ∷ "trigger_error" ∷ [])
    ∷ at 117 ("uasort" ∷ "ucfirst" ∷ "ucwords" ∷ "uksort" ∷ "umask" ∷ "uniqid" ∷ "unlink" ∷ "unpack" ∷
    "unregister_tick_function" ∷ "unserialize" ∷ "urldecode" ∷ "urlencode" ∷ "user_error" ∷ "usleep" ∷ "usort" ∷
    "utf8_decode" ∷ "utf8_encode" ∷ [])
    ∷ at 118 ("var_dump" ∷ "var_export" ∷ "version_compare" ∷ "vfprintf" ∷ "vprintf" ∷ "vsprintf" ∷ [])
    ∷ at 119 ("wordwrap" ∷ [])
    ∷ at 122 ("zend_version" ∷ [])
    ∷ []

-- classes and interfaces, in lower case
unfoldable pub beyond_classes : List Letter
beyond_classes =
    at 95 ("__php_incomplete_class" ∷ [])
    ∷ at 97 ("appenditerator" ∷ "arrayaccess" ∷ "arrayiterator" ∷ "arrayobject" ∷ "assertionerror" ∷ [])
    ∷ at 98 ("badfunctioncallexception" ∷ "badmethodcallexception" ∷ [])
    ∷ at 99 ("cachingiterator" ∷ "callbackfilteriterator" ∷ "closedgeneratorexception" ∷ "closure" ∷ "compileerror" ∷
    "countable" ∷ [])
    ∷ at 100 ("dateinterval" ∷ "dateperiod" ∷ "datetime" ∷ "datetimeimmutable" ∷ "datetimeinterface" ∷
    "datetimezone" ∷ "directory" ∷ "directoryiterator" ∷ "domainexception" ∷ [])
    ∷ at 101 ("emptyiterator" ∷ [])
    ∷ at 102 ("filesystemiterator" ∷ "filteriterator" ∷ [])
    ∷ at 103 ("generator" ∷ "globiterator" ∷ [])
    ∷ at 104 ("hashcontext" ∷ [])
    ∷ at 105 ("infiniteiterator" ∷ "invalidargumentexception" ∷ "iterator" ∷ "iteratoraggregate" ∷
    "iteratoriterator" ∷ [])
    ∷ at 106 ("jsonexception" ∷ "jsonserializable" ∷ [])
    ∷ at 108 ("lengthexception" ∷ "libxmlerror" ∷ "limititerator" ∷ [])
    ∷ at 109 ("multipleiterator" ∷ [])
    ∷ at 110 ("norewinditerator" ∷ [])
    ∷ at 111 ("outeriterator" ∷ "outofboundsexception" ∷ "outofrangeexception" ∷ "overflowexception" ∷ [])
    ∷ at 112 ("parentiterator" ∷ "parseerror" ∷ "php_user_filter" ∷ [])
    ∷ at 114 ("rangeexception" ∷ "recursivearrayiterator" ∷ "recursivecachingiterator" ∷
    "recursivecallbackfilteriterator" ∷ "recursivedirectoryiterator" ∷ "recursivefilteriterator" ∷
    "recursiveiterator" ∷ "recursiveiteratoriterator" ∷ "recursiveregexiterator" ∷ "recursivetreeiterator" ∷
    "reflection" ∷ "reflectionclass" ∷ "reflectionclassconstant" ∷ "reflectionexception" ∷ "reflectionextension" ∷
    "reflectionfunction" ∷ "reflectionfunctionabstract" ∷ "reflectiongenerator" ∷ "reflectionmethod" ∷
    "reflectionnamedtype" ∷ "reflectionobject" ∷ "reflectionparameter" ∷ "reflectionproperty" ∷
    "reflectionreference" ∷ "reflectiontype" ∷ "reflectionzendextension" ∷ "reflector" ∷ "regexiterator" ∷ [])
    ∷ at 115 ("seekableiterator" ∷ "serializable" ∷ "sessionhandler" ∷ "sessionhandlerinterface" ∷
    "sessionidinterface" ∷ "sessionupdatetimestamphandlerinterface" ∷ "spldoublylinkedlist" ∷ "splfileinfo" ∷
    "splfileobject" ∷ "splfixedarray" ∷ "splheap" ∷ "splmaxheap" ∷ "splminheap" ∷ "splobjectstorage" ∷
    "splobserver" ∷ "splpriorityqueue" ∷ "splqueue" ∷ "splstack" ∷ "splsubject" ∷ "spltempfileobject" ∷ [])
    ∷ at 116 ("traversable" ∷ [])
    ∷ at 117 ("underflowexception" ∷ "unexpectedvalueexception" ∷ [])
    ∷ at 119 ("weakreference" ∷ [])
    ∷ []

-- constants
unfoldable pub beyond_constants : List Letter
beyond_constants =
    at 65 ("ABDAY_1" ∷ "ABDAY_2" ∷ "ABDAY_3" ∷ "ABDAY_4" ∷ "ABDAY_5" ∷ "ABDAY_6" ∷ "ABDAY_7" ∷ "ABMON_1" ∷
    "ABMON_10" ∷ "ABMON_11" ∷ "ABMON_12" ∷ "ABMON_2" ∷ "ABMON_3" ∷ "ABMON_4" ∷ "ABMON_5" ∷ "ABMON_6" ∷ "ABMON_7" ∷
    "ABMON_8" ∷ "ABMON_9" ∷ "ALT_DIGITS" ∷ "AM_STR" ∷ "ASSERT_ACTIVE" ∷ "ASSERT_BAIL" ∷ "ASSERT_CALLBACK" ∷
    "ASSERT_EXCEPTION" ∷ "ASSERT_QUIET_EVAL" ∷ "ASSERT_WARNING" ∷ [])
    ∷ at 67 ("CHAR_MAX" ∷ "CODESET" ∷ "CREDITS_ALL" ∷ "CREDITS_DOCS" ∷ "CREDITS_FULLPAGE" ∷ "CREDITS_GENERAL" ∷
    "CREDITS_GROUP" ∷ "CREDITS_MODULES" ∷ "CREDITS_QA" ∷ "CREDITS_SAPI" ∷ "CRNCYSTR" ∷ "CRYPT_BLOWFISH" ∷
    "CRYPT_EXT_DES" ∷ "CRYPT_MD5" ∷ "CRYPT_SALT_LENGTH" ∷ "CRYPT_SHA256" ∷ "CRYPT_SHA512" ∷ "CRYPT_STD_DES" ∷
    "CURRENCY_SYMBOL" ∷ [])
    ∷ at 68 ("DATE_ATOM" ∷ "DATE_COOKIE" ∷ "DATE_ISO8601" ∷ "DATE_ISO8601_EXPANDED" ∷ "DATE_RFC1036" ∷
    "DATE_RFC1123" ∷ "DATE_RFC2822" ∷ "DATE_RFC3339" ∷ "DATE_RFC3339_EXTENDED" ∷ "DATE_RFC7231" ∷ "DATE_RFC822" ∷
    "DATE_RFC850" ∷ "DATE_RSS" ∷ "DATE_W3C" ∷ "DAY_1" ∷ "DAY_2" ∷ "DAY_3" ∷ "DAY_4" ∷ "DAY_5" ∷ "DAY_6" ∷ "DAY_7" ∷
    "DECIMAL_POINT" ∷ "DEFAULT_INCLUDE_PATH" ∷ "DIRECTORY_SEPARATOR" ∷ "DNS_A" ∷ "DNS_A6" ∷ "DNS_AAAA" ∷ "DNS_ALL" ∷
    "DNS_ANY" ∷ "DNS_CAA" ∷ "DNS_CNAME" ∷ "DNS_HINFO" ∷ "DNS_MX" ∷ "DNS_NAPTR" ∷ "DNS_NS" ∷ "DNS_PTR" ∷ "DNS_SOA" ∷
    "DNS_SRV" ∷ "DNS_TXT" ∷ "D_FMT" ∷ "D_T_FMT" ∷ [])
    ∷ at 69 ("ERA" ∷ "ERA_D_FMT" ∷ "ERA_D_T_FMT" ∷ "ERA_T_FMT" ∷ "ERA_YEAR" ∷ "E_ALL" ∷ [])
    ∷ at 70 ("FALSE" ∷ "FILE_BINARY" ∷ "FILE_TEXT" ∷ "FILTER_CALLBACK" ∷ "FILTER_DEFAULT" ∷
    "FILTER_FLAG_ALLOW_FRACTION" ∷ "FILTER_FLAG_ALLOW_HEX" ∷ "FILTER_FLAG_ALLOW_OCTAL" ∷
    "FILTER_FLAG_ALLOW_SCIENTIFIC" ∷ "FILTER_FLAG_ALLOW_THOUSAND" ∷ "FILTER_FLAG_EMAIL_UNICODE" ∷
    "FILTER_FLAG_EMPTY_STRING_NULL" ∷ "FILTER_FLAG_ENCODE_AMP" ∷ "FILTER_FLAG_ENCODE_HIGH" ∷
    "FILTER_FLAG_ENCODE_LOW" ∷ "FILTER_FLAG_HOSTNAME" ∷ "FILTER_FLAG_HOST_REQUIRED" ∷ "FILTER_FLAG_IPV4" ∷
    "FILTER_FLAG_IPV6" ∷ "FILTER_FLAG_NONE" ∷ "FILTER_FLAG_NO_ENCODE_QUOTES" ∷ "FILTER_FLAG_NO_PRIV_RANGE" ∷
    "FILTER_FLAG_NO_RES_RANGE" ∷ "FILTER_FLAG_PATH_REQUIRED" ∷ "FILTER_FLAG_QUERY_REQUIRED" ∷
    "FILTER_FLAG_SCHEME_REQUIRED" ∷ "FILTER_FLAG_STRIP_BACKTICK" ∷ "FILTER_FLAG_STRIP_HIGH" ∷
    "FILTER_FLAG_STRIP_LOW" ∷ "FILTER_FORCE_ARRAY" ∷ "FILTER_NULL_ON_FAILURE" ∷ "FILTER_REQUIRE_ARRAY" ∷
    "FILTER_REQUIRE_SCALAR" ∷ "FILTER_SANITIZE_ADD_SLASHES" ∷ "FILTER_SANITIZE_EMAIL" ∷ "FILTER_SANITIZE_ENCODED" ∷
    "FILTER_SANITIZE_FULL_SPECIAL_CHARS" ∷ "FILTER_SANITIZE_MAGIC_QUOTES" ∷ "FILTER_SANITIZE_NUMBER_FLOAT" ∷
    "FILTER_SANITIZE_NUMBER_INT" ∷ "FILTER_SANITIZE_SPECIAL_CHARS" ∷ "FILTER_SANITIZE_STRING" ∷
    "FILTER_SANITIZE_STRIPPED" ∷ "FILTER_SANITIZE_URL" ∷ "FILTER_UNSAFE_RAW" ∷ "FILTER_VALIDATE_BOOLEAN" ∷
    "FILTER_VALIDATE_DOMAIN" ∷ "FILTER_VALIDATE_EMAIL" ∷ "FILTER_VALIDATE_FLOAT" ∷ "FILTER_VALIDATE_INT" ∷
    "FILTER_VALIDATE_IP" ∷ "FILTER_VALIDATE_MAC" ∷ "FILTER_VALIDATE_REGEXP" ∷ "FILTER_VALIDATE_URL" ∷
    "FNM_CASEFOLD" ∷ "FNM_NOESCAPE" ∷ "FNM_PATHNAME" ∷ "FNM_PERIOD" ∷ "FRAC_DIGITS" ∷ [])
    ∷ at 71 ("GLOB_AVAILABLE_FLAGS" ∷ "GLOB_BRACE" ∷ "GLOB_ERR" ∷ "GLOB_MARK" ∷ "GLOB_NOCHECK" ∷ "GLOB_NOESCAPE" ∷
    "GLOB_NOSORT" ∷ "GLOB_ONLYDIR" ∷ "GROUPING" ∷ [])
    ∷ at 72 ("HASH_HMAC" ∷ [])
    ∷ at 73 ("ICONV_IMPL" ∷ "ICONV_MIME_DECODE_CONTINUE_ON_ERROR" ∷ "ICONV_MIME_DECODE_STRICT" ∷ "ICONV_VERSION" ∷
    "IMAGETYPE_BMP" ∷ "IMAGETYPE_COUNT" ∷ "IMAGETYPE_GIF" ∷ "IMAGETYPE_ICO" ∷ "IMAGETYPE_IFF" ∷ "IMAGETYPE_JB2" ∷
    "IMAGETYPE_JP2" ∷ "IMAGETYPE_JPC" ∷ "IMAGETYPE_JPEG" ∷ "IMAGETYPE_JPEG2000" ∷ "IMAGETYPE_JPX" ∷ "IMAGETYPE_PNG" ∷
    "IMAGETYPE_PSD" ∷ "IMAGETYPE_SWC" ∷ "IMAGETYPE_SWF" ∷ "IMAGETYPE_TIFF_II" ∷ "IMAGETYPE_TIFF_MM" ∷
    "IMAGETYPE_UNKNOWN" ∷ "IMAGETYPE_WBMP" ∷ "IMAGETYPE_WEBP" ∷ "IMAGETYPE_XBM" ∷ "INF" ∷ "INFO_ALL" ∷
    "INFO_CONFIGURATION" ∷ "INFO_CREDITS" ∷ "INFO_ENVIRONMENT" ∷ "INFO_GENERAL" ∷ "INFO_LICENSE" ∷ "INFO_MODULES" ∷
    "INFO_VARIABLES" ∷ "INPUT_COOKIE" ∷ "INPUT_ENV" ∷ "INPUT_GET" ∷ "INPUT_POST" ∷ "INPUT_REQUEST" ∷ "INPUT_SERVER" ∷
    "INPUT_SESSION" ∷ "INT_CURR_SYMBOL" ∷ "INT_FRAC_DIGITS" ∷ [])
    ∷ at 74 ("JSON_BIGINT_AS_STRING" ∷ "JSON_ERROR_CTRL_CHAR" ∷ "JSON_ERROR_DEPTH" ∷ "JSON_ERROR_INF_OR_NAN" ∷
    "JSON_ERROR_INVALID_PROPERTY_NAME" ∷ "JSON_ERROR_NONE" ∷ "JSON_ERROR_NON_BACKED_ENUM" ∷ "JSON_ERROR_RECURSION" ∷
    "JSON_ERROR_STATE_MISMATCH" ∷ "JSON_ERROR_SYNTAX" ∷ "JSON_ERROR_UNSUPPORTED_TYPE" ∷ "JSON_ERROR_UTF16" ∷
    "JSON_ERROR_UTF8" ∷ "JSON_FORCE_OBJECT" ∷ "JSON_HEX_AMP" ∷ "JSON_HEX_APOS" ∷ "JSON_HEX_QUOT" ∷ "JSON_HEX_TAG" ∷
    "JSON_INVALID_UTF8_IGNORE" ∷ "JSON_INVALID_UTF8_SUBSTITUTE" ∷ "JSON_NUMERIC_CHECK" ∷ "JSON_OBJECT_AS_ARRAY" ∷
    "JSON_PARTIAL_OUTPUT_ON_ERROR" ∷ "JSON_PRESERVE_ZERO_FRACTION" ∷ "JSON_PRETTY_PRINT" ∷ "JSON_THROW_ON_ERROR" ∷
    "JSON_UNESCAPED_LINE_TERMINATORS" ∷ "JSON_UNESCAPED_SLASHES" ∷ "JSON_UNESCAPED_UNICODE" ∷ [])
    ∷ at 76 ("LC_ALL" ∷ "LC_COLLATE" ∷ "LC_CTYPE" ∷ "LC_MESSAGES" ∷ "LC_MONETARY" ∷ "LC_NUMERIC" ∷ "LC_TIME" ∷
    "LIBXML_BIGLINES" ∷ "LIBXML_COMPACT" ∷ "LIBXML_DOTTED_VERSION" ∷ "LIBXML_DTDATTR" ∷ "LIBXML_DTDLOAD" ∷
    "LIBXML_DTDVALID" ∷ "LIBXML_ERR_ERROR" ∷ "LIBXML_ERR_FATAL" ∷ "LIBXML_ERR_NONE" ∷ "LIBXML_ERR_WARNING" ∷
    "LIBXML_HTML_NODEFDTD" ∷ "LIBXML_HTML_NOIMPLIED" ∷ "LIBXML_LOADED_VERSION" ∷ "LIBXML_NOBLANKS" ∷
    "LIBXML_NOCDATA" ∷ "LIBXML_NOEMPTYTAG" ∷ "LIBXML_NOENT" ∷ "LIBXML_NOERROR" ∷ "LIBXML_NONET" ∷
    "LIBXML_NOWARNING" ∷ "LIBXML_NOXMLDECL" ∷ "LIBXML_NSCLEAN" ∷ "LIBXML_PARSEHUGE" ∷ "LIBXML_PEDANTIC" ∷
    "LIBXML_SCHEMA_CREATE" ∷ "LIBXML_VERSION" ∷ "LIBXML_XINCLUDE" ∷ "LOG_ALERT" ∷ "LOG_AUTH" ∷ "LOG_AUTHPRIV" ∷
    "LOG_CONS" ∷ "LOG_CRIT" ∷ "LOG_CRON" ∷ "LOG_DAEMON" ∷ "LOG_DEBUG" ∷ "LOG_EMERG" ∷ "LOG_ERR" ∷ "LOG_INFO" ∷
    "LOG_KERN" ∷ "LOG_LOCAL0" ∷ "LOG_LOCAL1" ∷ "LOG_LOCAL2" ∷ "LOG_LOCAL3" ∷ "LOG_LOCAL4" ∷ "LOG_LOCAL5" ∷
    "LOG_LOCAL6" ∷ "LOG_LOCAL7" ∷ "LOG_LPR" ∷ "LOG_MAIL" ∷ "LOG_NDELAY" ∷ "LOG_NEWS" ∷ "LOG_NOTICE" ∷ "LOG_NOWAIT" ∷
    "LOG_ODELAY" ∷ "LOG_PERROR" ∷ "LOG_PID" ∷ "LOG_SYSLOG" ∷ "LOG_USER" ∷ "LOG_UUCP" ∷ "LOG_WARNING" ∷ [])
    ∷ at 77 ("MB_CASE_FOLD" ∷ "MB_CASE_FOLD_SIMPLE" ∷ "MB_CASE_LOWER" ∷ "MB_CASE_LOWER_SIMPLE" ∷ "MB_CASE_TITLE" ∷
    "MB_CASE_TITLE_SIMPLE" ∷ "MB_CASE_UPPER" ∷ "MB_CASE_UPPER_SIMPLE" ∷ "MB_ONIGURUMA_VERSION" ∷ "MB_OVERLOAD_MAIL" ∷
    "MB_OVERLOAD_REGEX" ∷ "MB_OVERLOAD_STRING" ∷ "MHASH_ADLER32" ∷ "MHASH_CRC32" ∷ "MHASH_CRC32B" ∷ "MHASH_CRC32C" ∷
    "MHASH_FNV132" ∷ "MHASH_FNV164" ∷ "MHASH_FNV1A32" ∷ "MHASH_FNV1A64" ∷ "MHASH_GOST" ∷ "MHASH_HAVAL128" ∷
    "MHASH_HAVAL160" ∷ "MHASH_HAVAL192" ∷ "MHASH_HAVAL224" ∷ "MHASH_HAVAL256" ∷ "MHASH_JOAAT" ∷ "MHASH_MD2" ∷
    "MHASH_MD4" ∷ "MHASH_MD5" ∷ "MHASH_MURMUR3A" ∷ "MHASH_MURMUR3C" ∷ "MHASH_MURMUR3F" ∷ "MHASH_RIPEMD128" ∷
    "MHASH_RIPEMD160" ∷ "MHASH_RIPEMD256" ∷ "MHASH_RIPEMD320" ∷ "MHASH_SHA1" ∷ "MHASH_SHA224" ∷ "MHASH_SHA256" ∷
    "MHASH_SHA384" ∷ "MHASH_SHA512" ∷ "MHASH_SNEFRU256" ∷ "MHASH_TIGER" ∷ "MHASH_TIGER128" ∷ "MHASH_TIGER160" ∷
    "MHASH_WHIRLPOOL" ∷ "MHASH_XXH128" ∷ "MHASH_XXH3" ∷ "MHASH_XXH32" ∷ "MHASH_XXH64" ∷ "MON_1" ∷ "MON_10" ∷
    "MON_11" ∷ "MON_12" ∷ "MON_2" ∷ "MON_3" ∷ "MON_4" ∷ "MON_5" ∷ "MON_6" ∷ "MON_7" ∷ "MON_8" ∷ "MON_9" ∷
    "MON_DECIMAL_POINT" ∷ "MON_GROUPING" ∷ "MON_THOUSANDS_SEP" ∷ "MT_RAND_MT19937" ∷ "MT_RAND_PHP" ∷ "M_1_PI" ∷
    "M_2_PI" ∷ "M_2_SQRTPI" ∷ "M_E" ∷ "M_EULER" ∷ "M_LN10" ∷ "M_LN2" ∷ "M_LNPI" ∷ "M_LOG10E" ∷ "M_LOG2E" ∷ "M_PI" ∷
    "M_PI_2" ∷ "M_PI_4" ∷ "M_SQRT1_2" ∷ "M_SQRT2" ∷ "M_SQRT3" ∷ "M_SQRTPI" ∷ [])
    ∷ at 78 ("NAN" ∷ "NEGATIVE_SIGN" ∷ "NOEXPR" ∷ "NOSTR" ∷ "NULL" ∷ "N_CS_PRECEDES" ∷ "N_SEP_BY_SPACE" ∷
    "N_SIGN_POSN" ∷ [])
    ∷ at 80 ("PASSWORD_ARGON2I" ∷ "PASSWORD_ARGON2ID" ∷ "PASSWORD_ARGON2_DEFAULT_MEMORY_COST" ∷
    "PASSWORD_ARGON2_DEFAULT_THREADS" ∷ "PASSWORD_ARGON2_DEFAULT_TIME_COST" ∷ "PASSWORD_ARGON2_PROVIDER" ∷
    "PASSWORD_BCRYPT" ∷ "PASSWORD_BCRYPT_DEFAULT_COST" ∷ "PASSWORD_DEFAULT" ∷ "PATHINFO_ALL" ∷ "PATH_SEPARATOR" ∷
    "PCRE_JIT_SUPPORT" ∷ "PCRE_VERSION" ∷ "PCRE_VERSION_MAJOR" ∷ "PCRE_VERSION_MINOR" ∷ "PEAR_EXTENSION_DIR" ∷
    "PEAR_INSTALL_DIR" ∷ "PHP_BINARY" ∷ "PHP_BINDIR" ∷ "PHP_CLI_PROCESS_TITLE" ∷ "PHP_CONFIG_FILE_PATH" ∷
    "PHP_CONFIG_FILE_SCAN_DIR" ∷ "PHP_DATADIR" ∷ "PHP_DEBUG" ∷ "PHP_EXTENSION_DIR" ∷ "PHP_EXTRA_VERSION" ∷
    "PHP_FD_SETSIZE" ∷ "PHP_FLOAT_DIG" ∷ "PHP_FLOAT_EPSILON" ∷ "PHP_FLOAT_MAX" ∷ "PHP_FLOAT_MIN" ∷ "PHP_LIBDIR" ∷
    "PHP_LOCALSTATEDIR" ∷ "PHP_MAJOR_VERSION" ∷ "PHP_MANDIR" ∷ "PHP_MAXPATHLEN" ∷ "PHP_MINOR_VERSION" ∷ "PHP_OS" ∷
    "PHP_OS_FAMILY" ∷ "PHP_OUTPUT_HANDLER_CLEAN" ∷ "PHP_OUTPUT_HANDLER_CLEANABLE" ∷ "PHP_OUTPUT_HANDLER_CONT" ∷
    "PHP_OUTPUT_HANDLER_DISABLED" ∷ "PHP_OUTPUT_HANDLER_END" ∷ "PHP_OUTPUT_HANDLER_FINAL" ∷
    "PHP_OUTPUT_HANDLER_FLUSH" ∷ "PHP_OUTPUT_HANDLER_FLUSHABLE" ∷ "PHP_OUTPUT_HANDLER_REMOVABLE" ∷
    "PHP_OUTPUT_HANDLER_START" ∷ "PHP_OUTPUT_HANDLER_STARTED" ∷ "PHP_OUTPUT_HANDLER_STDFLAGS" ∷
    "PHP_OUTPUT_HANDLER_WRITE" ∷ "PHP_PREFIX" ∷ "PHP_RELEASE_VERSION" ∷ "PHP_SAPI" ∷ "PHP_SESSION_ACTIVE" ∷
    "PHP_SESSION_DISABLED" ∷ "PHP_SESSION_NONE" ∷ "PHP_SHLIB_SUFFIX" ∷ "PHP_SYSCONFDIR" ∷ "PHP_VERSION" ∷
    "PHP_VERSION_ID" ∷ "PHP_ZTS" ∷ "PM_STR" ∷ "POSITIVE_SIGN" ∷ "POSIX_F_OK" ∷ "POSIX_RLIMIT_AS" ∷
    "POSIX_RLIMIT_CORE" ∷ "POSIX_RLIMIT_CPU" ∷ "POSIX_RLIMIT_DATA" ∷ "POSIX_RLIMIT_FSIZE" ∷ "POSIX_RLIMIT_INFINITY" ∷
    "POSIX_RLIMIT_LOCKS" ∷ "POSIX_RLIMIT_MEMLOCK" ∷ "POSIX_RLIMIT_MSGQUEUE" ∷ "POSIX_RLIMIT_NICE" ∷
    "POSIX_RLIMIT_NOFILE" ∷ "POSIX_RLIMIT_NPROC" ∷ "POSIX_RLIMIT_RSS" ∷ "POSIX_RLIMIT_RTPRIO" ∷
    "POSIX_RLIMIT_RTTIME" ∷ "POSIX_RLIMIT_SIGPENDING" ∷ "POSIX_RLIMIT_STACK" ∷ "POSIX_R_OK" ∷ "POSIX_S_IFBLK" ∷
    "POSIX_S_IFCHR" ∷ "POSIX_S_IFIFO" ∷ "POSIX_S_IFREG" ∷ "POSIX_S_IFSOCK" ∷ "POSIX_W_OK" ∷ "POSIX_X_OK" ∷
    "PREG_BACKTRACK_LIMIT_ERROR" ∷ "PREG_BAD_UTF8_ERROR" ∷ "PREG_BAD_UTF8_OFFSET_ERROR" ∷ "PREG_INTERNAL_ERROR" ∷
    "PREG_JIT_STACKLIMIT_ERROR" ∷ "PREG_NO_ERROR" ∷ "PREG_RECURSION_LIMIT_ERROR" ∷ "PSFS_ERR_FATAL" ∷
    "PSFS_FEED_ME" ∷ "PSFS_FLAG_FLUSH_CLOSE" ∷ "PSFS_FLAG_FLUSH_INC" ∷ "PSFS_FLAG_NORMAL" ∷ "PSFS_PASS_ON" ∷
    "P_CS_PRECEDES" ∷ "P_SEP_BY_SPACE" ∷ "P_SIGN_POSN" ∷ [])
    ∷ at 82 ("RADIXCHAR" ∷ [])
    ∷ at 83 ("STDERR" ∷ "STDIN" ∷ "STDOUT" ∷ "STREAM_BUFFER_FULL" ∷ "STREAM_BUFFER_LINE" ∷ "STREAM_BUFFER_NONE" ∷
    "STREAM_CAST_AS_STREAM" ∷ "STREAM_CAST_FOR_SELECT" ∷ "STREAM_CLIENT_ASYNC_CONNECT" ∷ "STREAM_CLIENT_CONNECT" ∷
    "STREAM_CLIENT_PERSISTENT" ∷ "STREAM_CRYPTO_METHOD_ANY_CLIENT" ∷ "STREAM_CRYPTO_METHOD_ANY_SERVER" ∷
    "STREAM_CRYPTO_METHOD_SSLv23_CLIENT" ∷ "STREAM_CRYPTO_METHOD_SSLv23_SERVER" ∷
    "STREAM_CRYPTO_METHOD_SSLv2_CLIENT" ∷ "STREAM_CRYPTO_METHOD_SSLv2_SERVER" ∷ "STREAM_CRYPTO_METHOD_SSLv3_CLIENT" ∷
    "STREAM_CRYPTO_METHOD_SSLv3_SERVER" ∷ "STREAM_CRYPTO_METHOD_TLS_CLIENT" ∷ "STREAM_CRYPTO_METHOD_TLS_SERVER" ∷
    "STREAM_CRYPTO_METHOD_TLSv1_0_CLIENT" ∷ "STREAM_CRYPTO_METHOD_TLSv1_0_SERVER" ∷
    "STREAM_CRYPTO_METHOD_TLSv1_1_CLIENT" ∷ "STREAM_CRYPTO_METHOD_TLSv1_1_SERVER" ∷
    "STREAM_CRYPTO_METHOD_TLSv1_2_CLIENT" ∷ "STREAM_CRYPTO_METHOD_TLSv1_2_SERVER" ∷
    "STREAM_CRYPTO_METHOD_TLSv1_3_CLIENT" ∷ "STREAM_CRYPTO_METHOD_TLSv1_3_SERVER" ∷ "STREAM_CRYPTO_PROTO_SSLv3" ∷
    "STREAM_CRYPTO_PROTO_TLSv1_0" ∷ "STREAM_CRYPTO_PROTO_TLSv1_1" ∷ "STREAM_CRYPTO_PROTO_TLSv1_2" ∷
    "STREAM_CRYPTO_PROTO_TLSv1_3" ∷ "STREAM_FILTER_ALL" ∷ "STREAM_FILTER_READ" ∷ "STREAM_FILTER_WRITE" ∷
    "STREAM_IGNORE_URL" ∷ "STREAM_IPPROTO_ICMP" ∷ "STREAM_IPPROTO_IP" ∷ "STREAM_IPPROTO_RAW" ∷ "STREAM_IPPROTO_TCP" ∷
    "STREAM_IPPROTO_UDP" ∷ "STREAM_IS_URL" ∷ "STREAM_META_ACCESS" ∷ "STREAM_META_GROUP" ∷ "STREAM_META_GROUP_NAME" ∷
    "STREAM_META_OWNER" ∷ "STREAM_META_OWNER_NAME" ∷ "STREAM_META_TOUCH" ∷ "STREAM_MKDIR_RECURSIVE" ∷
    "STREAM_MUST_SEEK" ∷ "STREAM_NOTIFY_AUTH_REQUIRED" ∷ "STREAM_NOTIFY_AUTH_RESULT" ∷ "STREAM_NOTIFY_COMPLETED" ∷
    "STREAM_NOTIFY_CONNECT" ∷ "STREAM_NOTIFY_FAILURE" ∷ "STREAM_NOTIFY_FILE_SIZE_IS" ∷ "STREAM_NOTIFY_MIME_TYPE_IS" ∷
    "STREAM_NOTIFY_PROGRESS" ∷ "STREAM_NOTIFY_REDIRECTED" ∷ "STREAM_NOTIFY_RESOLVE" ∷ "STREAM_NOTIFY_SEVERITY_ERR" ∷
    "STREAM_NOTIFY_SEVERITY_INFO" ∷ "STREAM_NOTIFY_SEVERITY_WARN" ∷ "STREAM_OOB" ∷ "STREAM_OPTION_BLOCKING" ∷
    "STREAM_OPTION_READ_BUFFER" ∷ "STREAM_OPTION_READ_TIMEOUT" ∷ "STREAM_OPTION_WRITE_BUFFER" ∷ "STREAM_PEEK" ∷
    "STREAM_PF_INET" ∷ "STREAM_PF_INET6" ∷ "STREAM_PF_UNIX" ∷ "STREAM_REPORT_ERRORS" ∷ "STREAM_SERVER_BIND" ∷
    "STREAM_SERVER_LISTEN" ∷ "STREAM_SHUT_RD" ∷ "STREAM_SHUT_RDWR" ∷ "STREAM_SHUT_WR" ∷ "STREAM_SOCK_DGRAM" ∷
    "STREAM_SOCK_RAW" ∷ "STREAM_SOCK_RDM" ∷ "STREAM_SOCK_SEQPACKET" ∷ "STREAM_SOCK_STREAM" ∷ "STREAM_URL_STAT_LINK" ∷
    "STREAM_URL_STAT_QUIET" ∷ "STREAM_USE_PATH" ∷ "SUNFUNCS_RET_DOUBLE" ∷ "SUNFUNCS_RET_STRING" ∷
    "SUNFUNCS_RET_TIMESTAMP" ∷ [])
    ∷ at 84 ("THOUSANDS_SEP" ∷ "THOUSEP" ∷ "TOKEN_PARSE" ∷ "TRUE" ∷ "T_ABSTRACT" ∷ "T_AND_EQUAL" ∷ "T_ARRAY" ∷
    "T_ARRAY_CAST" ∷ "T_AS" ∷ "T_BAD_CHARACTER" ∷ "T_BOOLEAN_AND" ∷ "T_BOOLEAN_OR" ∷ "T_BOOL_CAST" ∷ "T_BREAK" ∷
    "T_CALLABLE" ∷ "T_CASE" ∷ "T_CATCH" ∷ "T_CHARACTER" ∷ "T_CLASS" ∷ "T_CLASS_C" ∷ "T_CLONE" ∷ "T_CLOSE_TAG" ∷
    "T_COALESCE" ∷ "T_COALESCE_EQUAL" ∷ "T_COMMENT" ∷ "T_CONCAT_EQUAL" ∷ "T_CONST" ∷ "T_CONSTANT_ENCAPSED_STRING" ∷
    "T_CONTINUE" ∷ "T_CURLY_OPEN" ∷ "T_DEC" ∷ "T_DECLARE" ∷ "T_DEFAULT" ∷ "T_DIR" ∷ "T_DIV_EQUAL" ∷ "T_DNUMBER" ∷
    "T_DO" ∷ "T_DOC_COMMENT" ∷ "T_DOLLAR_OPEN_CURLY_BRACES" ∷ "T_DOUBLE_ARROW" ∷ "T_DOUBLE_CAST" ∷ "T_DOUBLE_COLON" ∷
    "T_ECHO" ∷ "T_ELLIPSIS" ∷ "T_ELSE" ∷ "T_ELSEIF" ∷ "T_EMPTY" ∷ "T_ENCAPSED_AND_WHITESPACE" ∷ "T_ENDDECLARE" ∷
    "T_ENDFOR" ∷ "T_ENDFOREACH" ∷ "T_ENDIF" ∷ "T_ENDSWITCH" ∷ "T_ENDWHILE" ∷ "T_END_HEREDOC" ∷ "T_EVAL" ∷ "T_EXIT" ∷
    "T_EXTENDS" ∷ "T_FILE" ∷ "T_FINAL" ∷ "T_FINALLY" ∷ "T_FMT" ∷ "T_FMT_AMPM" ∷ "T_FN" ∷ "T_FOR" ∷ "T_FOREACH" ∷
    "T_FUNCTION" ∷ "T_FUNC_C" ∷ "T_GLOBAL" ∷ "T_GOTO" ∷ "T_HALT_COMPILER" ∷ "T_IF" ∷ "T_IMPLEMENTS" ∷ "T_INC" ∷
    "T_INCLUDE" ∷ "T_INCLUDE_ONCE" ∷ "T_INLINE_HTML" ∷ "T_INSTANCEOF" ∷ "T_INSTEADOF" ∷ "T_INTERFACE" ∷
    "T_INT_CAST" ∷ "T_ISSET" ∷ "T_IS_EQUAL" ∷ "T_IS_GREATER_OR_EQUAL" ∷ "T_IS_IDENTICAL" ∷ "T_IS_NOT_EQUAL" ∷
    "T_IS_NOT_IDENTICAL" ∷ "T_IS_SMALLER_OR_EQUAL" ∷ "T_LINE" ∷ "T_LIST" ∷ "T_LNUMBER" ∷ "T_LOGICAL_AND" ∷
    "T_LOGICAL_OR" ∷ "T_LOGICAL_XOR" ∷ "T_METHOD_C" ∷ "T_MINUS_EQUAL" ∷ "T_MOD_EQUAL" ∷ "T_MUL_EQUAL" ∷
    "T_NAMESPACE" ∷ "T_NEW" ∷ "T_NS_C" ∷ "T_NS_SEPARATOR" ∷ "T_NUM_STRING" ∷ "T_OBJECT_CAST" ∷ "T_OBJECT_OPERATOR" ∷
    "T_OPEN_TAG" ∷ "T_OPEN_TAG_WITH_ECHO" ∷ "T_OR_EQUAL" ∷ "T_PAAMAYIM_NEKUDOTAYIM" ∷ "T_PLUS_EQUAL" ∷ "T_POW" ∷
    "T_POW_EQUAL" ∷ "T_PRINT" ∷ "T_PRIVATE" ∷ "T_PROTECTED" ∷ "T_PUBLIC" ∷ "T_REQUIRE" ∷ "T_REQUIRE_ONCE" ∷
    "T_RETURN" ∷ "T_SL" ∷ "T_SL_EQUAL" ∷ "T_SPACESHIP" ∷ "T_SR" ∷ "T_SR_EQUAL" ∷ "T_START_HEREDOC" ∷ "T_STATIC" ∷
    "T_STRING" ∷ "T_STRING_CAST" ∷ "T_STRING_VARNAME" ∷ "T_SWITCH" ∷ "T_THROW" ∷ "T_TRAIT" ∷ "T_TRAIT_C" ∷ "T_TRY" ∷
    "T_UNSET" ∷ "T_UNSET_CAST" ∷ "T_USE" ∷ "T_VAR" ∷ "T_VARIABLE" ∷ "T_WHILE" ∷ "T_WHITESPACE" ∷ "T_XOR_EQUAL" ∷
    "T_YIELD" ∷ "T_YIELD_FROM" ∷ [])
    ∷ at 89 ("YESEXPR" ∷ "YESSTR" ∷ [])
    ∷ at 90 ("ZEND_DEBUG_BUILD" ∷ "ZEND_THREAD_SAFE" ∷ [])
    ∷ at 95 ("__COMPILER_HALT_OFFSET__" ∷ [])
    ∷ []

-- whether 7.4 has a function, a class or a constant of this full name
abbrev pub is_beyond_function : List ℕ → Bool
is_beyond_function name = is_listed beyond_functions (str_to_ascii_lowercase name)

abbrev pub is_beyond_class : List ℕ → Bool
is_beyond_class name = is_listed beyond_classes (str_to_ascii_lowercase name)

abbrev pub is_beyond_constant : List ℕ → Bool
is_beyond_constant name = is_listed beyond_constants name
