mod MadeFiles
mod Ways
